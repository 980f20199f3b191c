-- How many matches an input can have, and how great their numbers are.
use Rattle.std.proofs.Common.{◌≡◌, ℕ, zero, suc, ◌+◌, ◌*◌, ◌≤◌, Bool, false, List, [], ◌∷◌, ◌++◌, length, map, Option, Some, None, ap, arith, length-append}
use Rattle.std.specs.Prelude.{filter, slice_get, not, nat_le, ◌&&◌, if◌then◌else◌}
use Rattle.std.specs.List.{All, enumerate_from, fold}
use Rattle.std.proofs.Math.Nat.{mul-le-mul_left, mul-le-mul_right}
use Rattle.std.proofs.lemmas.Bool.{cond_both}
use Rattle.std.proofs.lemmas.List.{length-map}
use Rattle.std.proofs.lemmas.List.Elements.{All-nil, All-cons, All-append}
use Rattle.sp_base.specs.Limits.{event_limit}
use Rattle.sp_base.specs.Numbers.{is_among}
use Rattle.sp_plan.specs.declared.event.Event.{Event}
use Rattle.sp_plan.specs.declared.found.Match.{Match}
use Rattle.sp_plan.specs.declared.plan.Plan.{Plan}
use Rattle.sp_plan.specs.Windows.{Numbered, Window, closed, events_of, numbered, windows}
use Rattle.sp_plan.specs.WindowNumbers.{Good}
use Rattle.sp_plan.specs.Runs.{Run, Started, State, Handling, is_complete, takes, used, holds_one, fresh, completed, kept_with, grown, departs, offered, handle_run, may_start, started_with, handle, state, matched_runs}
use Rattle.sp_plan.specs.Sequential.{match_of, seq, visible, whole}
use Rattle.sp_window.specs.Laws.{AreFew, ClosedFirst}

few_pass : {X : Type 0} (p : X → Bool) (xs : List X) → length (filter p xs) ≤ length xs
few_pass p [] = omega arith
few_pass p (x ∷ xs) =
    let more = few_pass p xs in
    cond_both (p x) (x ∷ filter p xs) (filter p xs) (λ l. length l ≤ length (x ∷ xs)) (λ _. omega arith) (λ _. omega arith)

numbered_many : {X : Type 0} (n : ℕ) (xs : List X) → length (enumerate_from n xs) ≡ length xs
numbered_many n [] = λ i. 0
numbered_many n (x ∷ xs) = ap suc (numbered_many (n + 1) xs)

-- the runs that are kept or matched
abbrev runs_in : Handling → ℕ
runs_in h = length h.kept + length h.matched

module _ (q : Plan) where
  -- one run more is at most one more of them
  grown_few : (h : Handling) (run : Started) → runs_in (grown q h run) ≤ runs_in h + 1
  grown_few h run =
      cond_both (is_complete q run.1) (completed q h run) (kept_with h run) (λ k. runs_in k ≤ runs_in h + 1)
      (λ _. omega (arith, few_pass (λ other. not (holds_one (used q run.1) other.1)) h.kept, length-append h.matched (run ∷ [])))
      (λ _. omega (arith, length-append h.kept (run ∷ [])))

  offered_few : (x : Numbered) (h : Handling) (run : Started) (o : Option ℕ) → runs_in (offered q x h run o) ≤ runs_in h + 1
  offered_few x h run (Some name) = grown_few h (run.0, run.1 ++ (record { name = name; number = x.0; event = x.1 }) ∷ [])
  offered_few x h run None = cond_both (departs q run.1 x.1) h (kept_with h run) (λ k. runs_in k ≤ runs_in h + 1) (λ _. omega arith) (λ _. omega (arith, length-append h.kept (run ∷ [])))

  handled_few : (x : Numbered) (h : Handling) (run : Started) → runs_in (handle_run q x h run) ≤ runs_in h + 1
  handled_few x h run =
      let given : Handling = offered q x h run (takes q run.1 x.1) in
      let rest : Handling = if is_among h.taken x.0 then kept_with h run else given in
      let most = offered_few x h run (takes q run.1 x.1) in
      cond_both (holds_one h.taken run.1) h rest (λ k. runs_in k ≤ runs_in h + 1) (λ _. omega arith)
      (λ _. cond_both (is_among h.taken x.0) (kept_with h run) given (λ k. runs_in k ≤ runs_in h + 1) (λ _. omega (arith, length-append h.kept (run ∷ []))) (λ _. most))

  all_handled : (x : Numbered) (h : Handling) (runs : List Started) → runs_in (fold (handle_run q x) h runs) ≤ runs_in h + length runs
  all_handled x h [] = omega arith
  all_handled x h (run ∷ runs) =
      let one = handled_few x h run in
      let rest = all_handled x (handle_run q x h run) runs in
      omega arith

  -- the runs of a state
  abbrev runs_of : State → ℕ
  runs_of s = length s.open_runs + length s.matched

  started_few : (x : Numbered) (h : Handling) (n : ℕ) (o : Option ℕ) → runs_of (started_with q x h n o) ≤ runs_in h + 1
  started_few x h n None = omega arith
  started_few x h n (Some name) = grown_few h (n + 1, (record { name = name; number = x.0; event = x.1 }) ∷ [])

  -- an event is at most one run more
  handle_few : (s : State) (x : Numbered) → runs_of (handle q s x) ≤ runs_of s + 1
  handle_few s x =
      let before : Handling = record { kept = []; matched = s.matched; taken = [] } in
      let h : Handling = fold (handle_run q x) before s.open_runs in
      let all = all_handled x before s.open_runs in
      let one = started_few x h s.started (if may_start q.select q s h x then takes q [] x.1 else None) in
      omega arith

  fold_few : (s : State) (xs : List Numbered) → runs_of (fold (handle q) s xs) ≤ runs_of s + length xs
  fold_few s [] = omega arith
  fold_few s (x ∷ xs) =
      let one = handle_few s x in
      let rest = fold_few (handle q s x) xs in
      omega arith

  -- so no more runs match than there are events
  matched_few : (xs : List Numbered) → length (matched_runs (state q xs)) ≤ length xs
  matched_few xs =
      let all = fold_few fresh xs in
      let same = length-map (state q xs).matched (λ run. run.1) in
      omega arith

  visible_few : (events : List Event) (consumed : List ℕ) (w : Option Window) → length (visible events consumed w) ≤ length events
  visible_few events consumed None = omega arith
  visible_few events consumed (Some w) =
      let own = few_pass (λ (x : Numbered). not (is_among consumed x.0)) (events_of events w) in
      let all = few_pass (λ (x : Numbered). nat_le w.first x.0 && nat_le x.0 w.last) (numbered events) in
      let many = numbered_many 1 events in
      omega arith

  -- each window has at most as many matches as there are events
  windows_few : (events : List Event) (n : ℕ) → length (seq q events n).matches ≤ n * length events
  windows_few events zero = omega arith
  windows_few events (suc n) =
      let before = seq q events n in
      let seen : List Numbered = visible events before.consumed (slice_get (windows q events false) n) in
      let runs : List Run = matched_runs (state q seen) in
      let most = windows_few events n in
      let some = matched_few seen in
      let few = visible_few events before.consumed (slice_get (windows q events false) n) in
      let both = length-append before.matches (map (match_of q (suc n)) (enumerate_from (length before.matches + 1) runs)) in
      let one = length-map (enumerate_from (length before.matches + 1) runs) (match_of q (suc n)) in
      let many = numbered_many (length before.matches + 1) runs in
      omega arith

  -- matches are numbered by their places
  numbers_by_place : (w n m : ℕ) (runs : List Run) → n + length runs ≤ m + 1 → All (λ (one : Match). one.number ≤ m) (map (match_of q w) (enumerate_from n runs))
  numbers_by_place w n m [] most = All-nil (λ (one : Match). one.number ≤ m)
  numbers_by_place w n m (run ∷ runs) most =
      All-cons (λ (one : Match). one.number ≤ m) (match_of q w (n, run)) (map (match_of q w) (enumerate_from (n + 1) runs)) (omega arith) (numbers_by_place w (n + 1) m runs (omega arith))

  numbers_few : (events : List Event) (n m : ℕ) → length (seq q events n).matches ≤ m → All (λ (one : Match). one.number ≤ m) (seq q events n).matches
  numbers_few events zero m most = All-nil (λ (one : Match). one.number ≤ m)
  numbers_few events (suc n) m most =
      let before = seq q events n in
      let runs : List Run = matched_runs (state q (visible events before.consumed (slice_get (windows q events false) n))) in
      let both = length-append before.matches (map (match_of q (suc n)) (enumerate_from (length before.matches + 1) runs)) in
      let one = length-map (enumerate_from (length before.matches + 1) runs) (match_of q (suc n)) in
      let many = numbered_many (length before.matches + 1) runs in
      All-append (λ (one : Match). one.number ≤ m) before.matches (map (match_of q (suc n)) (enumerate_from (length before.matches + 1) runs))
      (numbers_few events n m (omega arith)) (numbers_by_place (suc n) (length before.matches + 1) m runs (omega arith))

-- the most matches of an input
abbrev pub most_matches : ℕ
most_matches = 64 * event_limit * event_limit

module _ (q : Plan) (few : AreFew q) (first : ClosedFirst q) (events : List Event) (good : Good q events) (limit : length events ≤ event_limit) (ended : Bool) where
  pub matches_few : length (whole q events ended).matches ≤ most_matches
  matches_few =
      let n = closed q events ended in
      let all = windows_few q events n in
      let closed_ones = first.within events ended good in
      let windows = few events good in
      let most : n ≤ 64 * event_limit = omega arith in
      let by_windows = mul-le-mul_right (length events) most in
      let by_events = mul-le-mul_left (64 * event_limit) limit in
      omega arith

  pub matches_numbered : All (λ (one : Match). one.number ≤ most_matches) (whole q events ended).matches
  matches_numbered = numbers_few q events (closed q events ended) most_matches matches_few
