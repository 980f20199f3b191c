-- The start of a new run, against the definitions.
use Rattle.std.proofs.Common.{◌≡◌, ℕ, ◌+◌, Bool, true, false, cond, List, [], ◌∷◌, ◌++◌, map, length, Option, Some, None, refl, sym, ap, subst, ◌∙◌, append_assoc, arith}
use Rattle.std.specs.Prelude.{if◌then◌else◌}
use Rattle.std.specs.List.{filter, flat_map, fold}
use Rattle.std.proofs.lemmas.List.{map-append}
use Rattle.sp_base.specs.Numbers.{is_among}
use Rattle.sp_plan.specs.declared.plan.Plan.{Plan}
use Rattle.sp_plan.specs.Windows.{Numbered}
use Rattle.sp_plan.specs.Runs.{Pair, Started, State, holds_one, is_complete, departs, takes, used}
use Rattle.sp_plan.specs.Moves.{Acting, Told, Opened, OpenedTold, Grown, Completed, without_run, abandoned, act_run, act_start, acted, acting_on, apply, apply_all, completing, growing, used_if_complete}
use Rattle.sp_match.specs.inside.Kept.{Kept, empty, started}
use Rattle.sp_match.specs.inside.Effects.{runs_after_binding, runs_binding_told, run_after_use, use_told, run_after_binding, binding_told, used_by_binding}
use Rattle.sp_match.specs.inside.Shows.{Shows}
use Rattle.sp_match.specs.inside.Going.{acted_by}
use Rattle.sp_match.proofs.RunNumbersRise.{Rising, rising_join}
use Rattle.sp_match.proofs.MovesFollowRuns.{led_on}
use Rattle.sp_match.proofs.MovesAreTold.{told_then}
use Rattle.sp_match.proofs.OpenRuns.{open_append}
use Rattle.sp_match.proofs.GrownRunIsGood.{used_grown}
use Rattle.sp_match.proofs.RunsAfterBinding.{runs_after_binding_is, runs_binding_told_is}
use Rattle.sp_match.proofs.TurnShows.{bind_shows}

-- no turn of an open run starts another
abandoned_started : (runs : List Started) (s : State) → (apply_all s (map abandoned runs)).started ≡ s.started
abandoned_started [] s = refl
abandoned_started (run ∷ runs) s = abandoned_started runs (apply s (abandoned run))

growing_started : (q : Plan) (runs : List Started) (run : Started) (pair : Pair) (s : State) → (apply_all s (growing q runs run pair)).started ≡ s.started
growing_started q runs run pair s = one (is_complete q (run.1 ++ pair ∷ []))
  where
    one : (b : Bool) → (apply_all (apply s (Grown run.0 pair)) (if b then completing q runs (run.0, run.1 ++ pair ∷ []) else [])).started ≡ s.started
    one true = abandoned_started (filter (λ other. holds_one (used q (run.1 ++ pair ∷ [])) other.1) (without_run run.0 runs)) (apply (apply s (Grown run.0 pair)) (Completed run.0))
    one false = refl

run_started : (q : Plan) (x : Numbered) (a : Acting) (run : Started) → (act_run q x a run).now.started ≡ a.now.started
run_started q x a run = one (holds_one a.taken run.1) (is_among a.taken x.0)
  where
    takes_it : (o : Option ℕ) → (acted q x a run o).now.started ≡ a.now.started
    takes_it (Some name) = growing_started q a.now.open_runs run (record { name = name; number = x.0; event = x.1 }) a.now
    takes_it None = two (departs q run.1 x.1)
      where
        two : (b : Bool) → (cond b (acting_on a (abandoned run ∷ []) []) a).now.started ≡ a.now.started
        two true = refl
        two false = refl

    one : (h u : Bool) → (cond h a (cond u a (acted q x a run (takes q run.1 x.1)))).now.started ≡ a.now.started
    one true u = refl
    one false true = refl
    one false false = takes_it (takes q run.1 x.1)

turns_started : (q : Plan) (x : Numbered) (runs : List Started) (a : Acting) → (fold (act_run q x) a runs).now.started ≡ a.now.started
turns_started q x [] a = refl
turns_started q x (run ∷ runs) a = turns_started q x runs (act_run q x a run) ∙ run_started q x a run

pub acted_started : (q : Plan) (x : Numbered) (s : State) (runs : List Started) → (acted_by q x s runs).now.started ≡ s.started
acted_started q x s runs = turns_started q x runs (record { moves = []; now = s; taken = [] })

-- a run more that has bound nothing
opened_shows : (q : Plan) (s : State) (a : Acting) (ks : List Kept) (ts : List Told) → Shows q s a ks ts
    → Shows q s (acting_on a (Opened ∷ []) []) (ks ++ empty (a.now.started + 1) ∷ []) (ts ++ OpenedTold (a.now.started + 1) ∷ [])
opened_shows q s a ks ts shows = record {
  now = open_append ks (empty (a.now.started + 1) ∷ []) ∙ ap (λ (l : List Started). l ++ (a.now.started + 1, []) ∷ []) shows.now;
  told = (λ i. shows.told i ++ OpenedTold ((shows.led i).started + 1) ∷ []) ∙ sym (told_then q s a.moves (Opened ∷ []));
  led = led_on s a (Opened ∷ []) [] shows.led;
}

-- the runs with a new one rise
pub rising_new : (n : ℕ) (ks : List Kept) → Rising 0 n (map started ks) → Rising 0 (n + 1) (map started (ks ++ empty (n + 1) ∷ []))
rising_new n ks up =
    subst (Rising 0 (n + 1)) (sym (map-append started ks (empty (n + 1) ∷ []))) (rising_join 0 n (n + 1) (map started ks) ((n + 1, []) ∷ []) up (omega arith, omega arith))

start_shows : (q : Plan) (x : Numbered) (s : State) (a : Acting) (ks : List Kept) (ts : List Told) (name : ℕ) → Rising 0 a.now.started (map started ks) → Shows q s a ks ts
    → Shows q s (act_start q x a (Some name)) (runs_after_binding q name x (length ks) (ks ++ empty (a.now.started + 1) ∷ []))
    (ts ++ OpenedTold (a.now.started + 1) ∷ runs_binding_told q name x (length ks) (ks ++ empty (a.now.started + 1) ∷ []))
start_shows q x s a ks ts name up shows =
    let n = a.now.started in
    let k : Kept = empty (n + 1) in
    let pair : Pair = record { name = name; number = x.0; event = x.1 } in
    let opened : Acting = acting_on a (Opened ∷ []) [] in
    let ns = used_by_binding q name x k in
    let grew = bind_shows q x ks [] k name (n + 1) refl refl (used_grown q name x.0 x.1 k refl refl) (rising_new n ks up) s opened (ts ++ OpenedTold (n + 1) ∷ []) (used_if_complete q (pair ∷ [])) (opened_shows q s a ks ts shows) in
    subst (λ (l : List Kept). Shows q s (act_start q x a (Some name)) l (ts ++ OpenedTold (n + 1) ∷ runs_binding_told q name x (length ks) (ks ++ k ∷ []))) (sym (runs_after_binding_is q name x ks [] k))
    (subst (λ (l : List Told). Shows q s (act_start q x a (Some name)) (map (run_after_use ns) (ks ++ run_after_binding q name x k ∷ [])) (ts ++ OpenedTold (n + 1) ∷ l)) (sym (runs_binding_told_is q name x ks [] k))
    (subst (λ (l : List Told). Shows q s (act_start q x a (Some name)) (map (run_after_use ns) (ks ++ run_after_binding q name x k ∷ [])) l)
    (append_assoc ts (OpenedTold (n + 1) ∷ []) (binding_told q name x k ++ flat_map (use_told ns) (ks ++ run_after_binding q name x k ∷ []))) grew))

pub new_shows : (q : Plan) (x : Numbered) (s : State) (a : Acting) (n : ℕ) (ks : List Kept) (ts : List Told) (name : ℕ) → a.now.started ≡ n → Rising 0 n (map started ks) → Shows q s a ks ts
    → Shows q s (act_start q x a (Some name)) (runs_after_binding q name x (length ks) (ks ++ empty (n + 1) ∷ [])) (ts ++ OpenedTold (n + 1) ∷ runs_binding_told q name x (length ks) (ks ++ empty (n + 1) ∷ []))
new_shows q x s a n ks ts name is up shows =
    subst (λ (m : ℕ). Shows q s (act_start q x a (Some name)) (runs_after_binding q name x (length ks) (ks ++ empty (m + 1) ∷ [])) (ts ++ OpenedTold (m + 1) ∷ runs_binding_told q name x (length ks) (ks ++ empty (m + 1) ∷ []))) is
    (start_shows q x s a ks ts name (subst (λ (m : ℕ). Rising 0 m (map started ks)) (sym is) up) shows)

pub new_started : (q : Plan) (x : Numbered) (a : Acting) (name : ℕ) → (act_start q x a (Some name)).now.started ≡ a.now.started + 1
new_started q x a name =
    let opened : Acting = acting_on a (Opened ∷ []) [] in
    growing_started q opened.now.open_runs (a.now.started + 1, []) (record { name = name; number = x.0; event = x.1 }) opened.now

-- binding leaves the numbers of the runs
marked_numbers : (ns : List ℕ) (ks : List Kept) → map (λ k. k.number) (map (run_after_use ns) ks) ≡ map (λ k. k.number) ks
marked_numbers ns [] = refl
marked_numbers ns (k ∷ ks) = ap (λ (l : List ℕ). k.number ∷ l) (marked_numbers ns ks)

pub bound_numbers_stay : (q : Plan) (name : ℕ) (x : Numbered) (fs bs : List Kept) (k : Kept) → map (λ k. k.number) (runs_after_binding q name x (length fs) (fs ++ k ∷ bs)) ≡ map (λ k. k.number) (fs ++ k ∷ bs)
bound_numbers_stay q name x fs bs k =
    ap (map (λ (k : Kept). k.number)) (runs_after_binding_is q name x fs bs k) ∙ marked_numbers (used_by_binding q name x k) (fs ++ run_after_binding q name x k ∷ bs)
    ∙ map-append (λ (k : Kept). k.number) fs (run_after_binding q name x k ∷ bs) ∙ sym (map-append (λ (k : Kept). k.number) fs (k ∷ bs))
