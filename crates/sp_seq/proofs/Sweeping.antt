-- One window more.
use Rattle.std.proofs.Common.{◌≡◌, ℕ, suc, ◌+◌, ◌-◌, Bool, false, List, [], ◌∷◌, ◌++◌, length, drop, map, refl, sym, ◌∙◌, ap, subst, arith}
use Rattle.std.specs.Prelude.{slice_get}
use Rattle.std.specs.List.{enumerate_from, flat_map}
use Rattle.sp_plan.specs.declared.event.Event.{Event}
use Rattle.sp_plan.specs.declared.plan.Plan.{Plan}
use Rattle.sp_plan.specs.declared.found.Match.{Match}
use Rattle.sp_plan.specs.Windows.{windows}
use Rattle.sp_plan.specs.Runs.{Run, State, used, state, matched_runs}
use Rattle.sp_plan.specs.Sequential.{seq, match_of, visible, after_window}
use Rattle.sp_seq.specs.Marked.{IsMarked}
use Rattle.sp_seq.specs.Unconsumed.{unconsumed}
use Rattle.sp_seq.specs.Completed.{with_matches}
use Rattle.sp_seq.specs.Learned.{AllKnown}
use Rattle.sp_seq.specs.Spans.{IsSpan, IsSwept}
use Rattle.sp_seq.specs.declared.sweep.Sweep.{Sweep}

-- what the matches of runs use
used_of_matches : (q : Plan) (window first : ℕ) (runs : List Run) → flat_map (λ (one : Match). one.used) (map (match_of q window) (enumerate_from first runs)) ≡ flat_map (used q) runs
used_of_matches q window first [] = refl
used_of_matches q window first (run ∷ runs) = ap (λ (l : List ℕ). used q run ++ l) (used_of_matches q window (first + 1) runs)

-- what stands behind a list
behind : {X : Type 0} (xs ys : List X) → drop (length xs) (xs ++ ys) ≡ ys
behind [] ys = refl
behind (x ∷ xs) ys = behind xs ys

-- one window more
pub swept_more : (q : Plan) (events : List Event) (count first end : ℕ) (ms ms' : List Match) (flags flags' : List Bool) → IsSwept q events count ms flags → IsSpan q events (count + 1) first end
    → ((before : List ℕ) → IsMarked before flags → ms' ≡ with_matches q (count + 1) ms (state q (unconsumed before events first end)))
    → ((before : List ℕ) → IsMarked before flags → IsMarked (before ++ flat_map (λ (one : Match). one.used) (drop (length ms) ms')) flags') → length flags' ≡ length flags → IsSwept q events (count + 1) ms' flags'
swept_more q events count first end ms ms' flags flags' swept span matched marks same =
    let before = seq q events count in
    let s : State = state q (unconsumed before.consumed events first end) in
    let one : count + 1 ≡ suc count = omega arith in
    let at : count + 1 - 1 ≡ count = omega arith in
    let seen : visible events before.consumed (slice_get (windows q events false) count) ≡ unconsumed before.consumed events first end =
    ap (λ (n : ℕ). visible events before.consumed (slice_get (windows q events false) n)) (sym at) ∙ span.visible_is before.consumed in
    let ms_is : ms' ≡ with_matches q (count + 1) ms s = matched before.consumed swept.marked in
    let new : drop (length ms) ms' ≡ map (match_of q (count + 1)) (enumerate_from (length ms + 1) (matched_runs s)) = ap (drop (length ms)) ms_is ∙ behind ms (map (match_of q (count + 1)) (enumerate_from (length ms + 1) (matched_runs s))) in
    let uses : flat_map (λ (one : Match). one.used) (drop (length ms) ms') ≡ flat_map (used q) (matched_runs s) = ap (flat_map (λ (one : Match). one.used)) new ∙ used_of_matches q (count + 1) (length ms + 1) (matched_runs s) in
    let next : IsSwept q events (suc count) ms' flags' = record {
      matches_are = ms_is ∙ ap (λ (l : List Match). with_matches q (count + 1) l s) swept.matches_are ∙ ap (λ (n : ℕ). with_matches q n before.matches s) one ∙ ap (λ v. (after_window q (suc count) before (matched_runs (state q v))).matches) (sym seen);
      marked = subst (λ (l : List ℕ). IsMarked l flags') (ap (λ (l : List ℕ). before.consumed ++ l) (uses ∙ ap (λ v. flat_map (used q) (matched_runs (state q v))) (sym seen))) (marks before.consumed swept.marked);
      size = same ∙ swept.size;
    } in
    subst (λ (n : ℕ). IsSwept q events n ms' flags') (sym one) next

-- all that holds from window to window
pub record Sweeping (q : Plan) (events : List Event) (count : ℕ) (sweep : Sweep) : Type 0 where
  pub swept : IsSwept q events count sweep.matches.items sweep.consumed.items
  pub known : AllKnown q events sweep.known.items
  pub plan_is : sweep.matcher.plan ≡ q
