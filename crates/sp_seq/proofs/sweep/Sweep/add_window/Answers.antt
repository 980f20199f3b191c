use Rattle.std.proofs.Common.{◌≡◌, ℕ, ◌+◌, ◌-◌, List, ◌++◌, length, drop, take, ◌∙◌, sym, subst, arith, rules}
use Rattle.std.specs.List.{flat_map}
use Rattle.std.proofs.lemmas.List.{take_at}
use Rattle.sp_plan.specs.declared.plan.Plan.{Plan}
use Rattle.sp_plan.specs.declared.found.Match.{Match}
use Rattle.sp_plan.specs.Runs.{state}
use Rattle.sp_seq.specs.Marked.{IsMarked}
use Rattle.sp_seq.specs.Unconsumed.{unconsumed}
use Rattle.sp_seq.specs.Completed.{with_matches}
use Rattle.sp_seq.specs.Learned.{AllKnown}
use Rattle.sp_seq.specs.Spans.{IsSpan, IsSwept}
use Rattle.sp_seq.proofs.Sweeping.{swept_more}
use Rattle.sp_seq.proofs.sweep.Sweep.add_window.Goals as goal

pub match_window-requires-clause-known : goal.match_window-requires-clause-known
match_window-requires-clause-known c =
    let events = c.args.events.now in
    subst (λ (p : Plan). AllKnown p events c.deref.result.now) (sym c.requires.plan) (subst (AllKnown c.args.plan.now events) (sym c.deref.ensures.value) c.in_ok-learn.ensures.known)

pub returns-clause-swept : goal.returns-clause-swept
returns-clause-swept c =
    let q = c.args.plan.now in
    let events = c.args.events.now in
    let ms = c.args.self.now.matches.items in
    let ms' = c.match_window.new.matches.items in
    let flags = c.args.self.now.consumed.items in
    let flags' = c.consume.new.consumed in
    let window = c.args.window in
    let count = window.number - 1 in
    let number : window.number ≡ count + 1 = omega (arith, c.requires.some) in
    let size : length flags' ≡ length flags = search rules in
    let whole : take c.args.self.now.consumed.len (flags' ++ drop (length flags') flags) ≡ flags' = take_at flags' (drop (length flags') flags) c.args.self.now.consumed.len (search (rules, size)) in
    let earlier : c.len-earlier.result ≡ length ms = search rules in
    let span : IsSpan q events (count + 1) window.first window.end = subst (λ (n : ℕ). IsSpan q events n window.first window.end) number c.requires.span in
    let found : (before : List ℕ) → IsMarked before flags → ms' ≡ with_matches q (count + 1) ms (state q (unconsumed before events window.first window.end)) = λ before marked.
    c.in_ok-match_window.ensures.matches before (subst (IsMarked before) (sym c.deref-2.ensures.value) marked) ∙ (λ i. with_matches (c.requires.plan i) (number i) ms (state (c.requires.plan i) (unconsumed before events window.first window.end))) in
    let new : c.behind.result.now ≡ drop (length ms) ms' = c.behind.ensures ∙ (λ i. drop (earlier i) (c.deref-3.ensures.value i)) in
    let marks : (before : List ℕ) → IsMarked before flags → IsMarked (before ++ flat_map (λ (one : Match). one.used) (drop (length ms) ms')) flags' = λ before marked.
    subst (λ (l : List Match). IsMarked (before ++ flat_map (λ (one : Match). one.used) l) flags') new (c.consume.ensures before (subst (IsMarked before) (sym c.deref_mut.ensures.value) marked)) in
    let swept : IsSwept q events (count + 1) ms' flags' = swept_more q events count window.first window.end ms ms' flags flags' c.requires.swept span found marks size in
    subst (IsSwept q events window.number ms') (sym whole) (subst (λ (n : ℕ). IsSwept q events n ms' flags') (sym number) swept)
