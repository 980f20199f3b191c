-- A run number is used once, whatever moves are made.
use Rattle.std.proofs.Common.{◌≡◌, ℕ, ◌+◌, ◌<◌, ◌≤◌, inl, inr, Bool, true, false, cond, not, ◌==◌, List, [], ◌∷◌, ◌++◌, length, map, refl, ap, ◌∙◌, subst, length-append, arith}
use Rattle.std.specs.List.{All, filter, fold}
use Rattle.std.proofs.lemmas.Bool.Decides.{nat_tests}
use Rattle.std.proofs.lemmas.Bool.{cases_lt}
use Rattle.std.proofs.lemmas.List.Elements.{All-nil, All-head, All-tail, All-append, All-filter, All-weaker, filter-append}
use Rattle.sp_plan.specs.declared.plan.Plan.{Plan}
use Rattle.sp_plan.specs.Windows.{Numbered}
use Rattle.sp_plan.specs.Runs.{Pair, Started, State, fresh, handle}
use Rattle.sp_plan.specs.Moves.{Move, Opened, Grown, Completed, Abandoned, is_run, without_run, with_pair, apply, apply_all, moves}
use Rattle.sp_match.specs.public.Laws.{Sound, RunsAreSound}
use Rattle.sp_match.proofs.RunNumbersRise.{Rising, Absent, rising_join, rising_filter, runs_absent}
use Rattle.sp_match.proofs.MovesAreHandling.{IsGiven, ordered_rises, rising_ordered, moves_are_handling}

-- how many runs have the number
abbrev pub count : ℕ → List Started → ℕ
count r runs = length (filter (is_run r) runs)

pub count_append : (r : ℕ) (xs ys : List Started) → count r (xs ++ ys) ≡ count r xs + count r ys
count_append r xs ys = ap length (filter-append (is_run r) xs ys) ∙ length-append (filter (is_run r) xs) (filter (is_run r) ys)

-- each run is the one of a number, or another
count_split : (x r : ℕ) (xs : List Started) → count x (without_run r xs) + count x (filter (is_run r) xs) ≡ count x xs
count_split x r [] = refl
count_split x r (y ∷ ys) = one (is_run r y) (count_split x r ys)
  where
    two : (c : Bool) → count x (without_run r ys) + count x (filter (is_run r) ys) ≡ count x ys
        → length (cond c (y ∷ filter (is_run x) (without_run r ys)) (filter (is_run x) (without_run r ys))) + count x (filter (is_run r) ys) ≡ length (cond c (y ∷ filter (is_run x) ys) (filter (is_run x) ys))
    two true rest = omega arith
    two false rest = rest

    three : (c : Bool) → count x (without_run r ys) + count x (filter (is_run r) ys) ≡ count x ys
        → count x (without_run r ys) + length (cond c (y ∷ filter (is_run x) (filter (is_run r) ys)) (filter (is_run x) (filter (is_run r) ys))) ≡ length (cond c (y ∷ filter (is_run x) ys) (filter (is_run x) ys))
    three true rest = omega arith
    three false rest = rest

    one : (b : Bool) → count x (without_run r ys) + count x (filter (is_run r) ys) ≡ count x ys
        → count x (cond (not b) (y ∷ without_run r ys) (without_run r ys)) + count x (cond b (y ∷ filter (is_run r) ys) (filter (is_run r) ys)) ≡ count x (y ∷ ys)
    one true rest = three (is_run x y) rest
    one false rest = two (is_run x y) rest

-- a run that takes a pair keeps its number
pub with_pair_number : (r : ℕ) (pair : Pair) (run : Started) → (with_pair r pair run).0 ≡ run.0
with_pair_number r pair run = one (is_run r run)
  where
    one : (b : Bool) → (cond {A = Started} b (run.0, run.1 ++ pair ∷ []) run).0 ≡ run.0
    one true = refl
    one false = refl

count_with_pair : (x r : ℕ) (pair : Pair) (xs : List Started) → count x (map (with_pair r pair) xs) ≡ count x xs
count_with_pair x r pair [] = refl
count_with_pair x r pair (y ∷ ys) = rw (with_pair_number r pair y) (one (is_run x y) (count_with_pair x r pair ys))
  where
    one : (b : Bool) → count x (map (with_pair r pair) ys) ≡ count x ys
        → length (cond b (with_pair r pair y ∷ filter (is_run x) (map (with_pair r pair) ys)) (filter (is_run x) (map (with_pair r pair) ys))) ≡ length (cond b (y ∷ filter (is_run x) ys) (filter (is_run x) ys))
    one true rest = omega arith
    one false rest = rest

rising_with_pair : (r : ℕ) (pair : Pair) (low top : ℕ) (xs : List Started) → Rising low top xs → Rising low top (map (with_pair r pair) xs)
rising_with_pair r pair low top [] up = up
rising_with_pair r pair low top (x ∷ xs) up = rw (with_pair_number r pair x) (up.0, rising_with_pair r pair x.0 top xs up.1)

-- no run has a number that was not given
given_absent : (n r : ℕ) (xs : List Started) → n < r → All (IsGiven n) xs → Absent r xs
given_absent n r [] above given = tt
given_absent n r (x ∷ xs) above given =
    let here = (All-head (IsGiven n) x xs given).1 in
    (grind (arith, nat_tests), given_absent n r xs above (All-tail (IsGiven n) x xs given))

given_more : (n : ℕ) (xs : List Started) → All (IsGiven n) xs → All (IsGiven (n + 1)) xs
given_more n xs given = All-weaker (IsGiven n) (IsGiven (n + 1)) (λ run is. (is.0, omega (arith, is.1))) xs given

-- a new run's number was used by none
once_opened : (s : State) → Sound s → (r : ℕ) → count r ((s.open_runs ++ (s.started + 1, []) ∷ []) ++ s.matched) ≤ 1
once_opened s sound r =
    let parts = count_append r (s.open_runs ++ (s.started + 1, []) ∷ []) s.matched in
    let more = count_append r s.open_runs ((s.started + 1, []) ∷ []) in
    let before = count_append r s.open_runs s.matched in
    let once = sound.once r in
    elim (cases_lt s.started r) [
      | inl above ↦
          let opened : count r s.open_runs ≡ 0 = ap length (runs_absent r s.open_runs (given_absent s.started r s.open_runs above sound.ordered.given)) in
          let matched : count r s.matched ≡ 0 = ap length (runs_absent r s.matched (given_absent s.started r s.matched above sound.given)) in
          let one : count r ((s.started + 1, []) ∷ []) ≤ 1 = at_most_one ((s.started + 1) == r) in
          omega arith
      | inr within ↦
          let none : count r ((s.started + 1, []) ∷ []) ≡ 0 = let other : ((s.started + 1) == r) ≡ false = grind (arith, nat_tests) in rw other in
          omega arith
    ]
  where
    at_most_one : (b : Bool) → length {A = Started} (cond b ((s.started + 1, []) ∷ []) []) ≤ 1
    at_most_one true = omega arith
    at_most_one false = omega arith

sound_opened : (s : State) → Sound s → Sound (apply s Opened)
sound_opened s sound = record {
  ordered = rising_ordered (apply s Opened) (rising_join 0 s.started (s.started + 1) s.open_runs ((s.started + 1, []) ∷ []) (ordered_rises s sound.ordered) (omega arith, omega arith));
  given = given_more s.started s.matched sound.given;
  once = once_opened s sound;
}

sound_grown : (s : State) (r : ℕ) (pair : Pair) → Sound s → Sound (apply s (Grown r pair))
sound_grown s r pair sound = record {
  ordered = rising_ordered (apply s (Grown r pair)) (rising_with_pair r pair 0 s.started s.open_runs (ordered_rises s sound.ordered));
  given = sound.given;
  once = λ x.
      let now = count_append x (map (with_pair r pair) s.open_runs) s.matched in
      let before = count_append x s.open_runs s.matched in
      let same = count_with_pair x r pair s.open_runs in
      let once = sound.once x in
      omega arith;
}

sound_completed : (s : State) (r : ℕ) → Sound s → Sound (apply s (Completed r))
sound_completed s r sound = record {
  ordered = rising_ordered (apply s (Completed r)) (rising_filter (λ run. not (is_run r run)) 0 s.started s.open_runs (ordered_rises s sound.ordered));
  given = All-append (IsGiven s.started) s.matched (filter (is_run r) s.open_runs) sound.given (All-filter (is_run r) (IsGiven s.started) s.open_runs sound.ordered.given);
  once = λ x.
      let now = count_append x (without_run r s.open_runs) (s.matched ++ filter (is_run r) s.open_runs) in
      let matched = count_append x s.matched (filter (is_run r) s.open_runs) in
      let before = count_append x s.open_runs s.matched in
      let split = count_split x r s.open_runs in
      let once = sound.once x in
      omega arith;
}

sound_abandoned : (s : State) (r : ℕ) → Sound s → Sound (apply s (Abandoned r))
sound_abandoned s r sound = record {
  ordered = rising_ordered (apply s (Abandoned r)) (rising_filter (λ run. not (is_run r run)) 0 s.started s.open_runs (ordered_rises s sound.ordered));
  given = sound.given;
  once = λ x.
      let now = count_append x (without_run r s.open_runs) s.matched in
      let before = count_append x s.open_runs s.matched in
      let split = count_split x r s.open_runs in
      let once = sound.once x in
      omega arith;
}

-- one move
pub sound_moved : (s : State) (m : Move) → Sound s → Sound (apply s m)
sound_moved s Opened sound = sound_opened s sound
sound_moved s (Grown r pair) sound = sound_grown s r pair sound
sound_moved s (Completed r) sound = sound_completed s r sound
sound_moved s (Abandoned r) sound = sound_abandoned s r sound

-- any moves
pub sound_all : (s : State) (ms : List Move) → Sound s → Sound (apply_all s ms)
sound_all s [] sound = sound
sound_all s (m ∷ ms) sound = sound_all (apply s m) ms (sound_moved s m sound)

pub sound_fresh : Sound fresh
sound_fresh = record {
  ordered = rising_ordered fresh (omega arith);
  given = All-nil (IsGiven 0);
  once = λ r. omega arith;
}

-- one event
pub sound_handled : (q : Plan) (s : State) (x : Numbered) → Sound s → Sound (handle q s x)
sound_handled q s x sound = subst (λ (t : State). Sound t) (moves_are_handling q s x sound.ordered) (sound_all s (moves q s x) sound)

sound_events : (q : Plan) (events : List Numbered) (s : State) → Sound s → Sound (fold (handle q) s events)
sound_events q [] s sound = sound
sound_events q (x ∷ events) s sound = sound_events q events (handle q s x) (sound_handled q s x sound)

-- At first no run number is used, and each move uses each number once.
pub runs_are_sound : RunsAreSound
runs_are_sound = record {
  at_first = sound_fresh;
  moved = sound_moved;
  visible = λ q events. sound_events q events fresh sound_fresh;
}
