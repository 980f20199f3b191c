-- A reading is what moves lead to, one number after another.
use Rattle.std.proofs.Common.{◌≡◌, ℕ, zero, suc, ◌+◌, ◌≤◌, ◌<◌, Bool, true, false, cond, List, [], ◌++◌, Option, Some, None, refl, ap, ◌∙◌, subst, arith}
use Rattle.std.specs.List.{All}
use Rattle.std.proofs.lemmas.List.Elements.{All-nil}
use Rattle.std.proofs.lemmas.List.Sums.{fold-append}
use Rattle.sp_base.specs.Numbers.{is_among}
use Rattle.sp_plan.specs.declared.event.Event.{Event}
use Rattle.sp_plan.specs.declared.plan.Plan.{Plan}
use Rattle.sp_plan.specs.Runs.{Pair, Started, State, after_closing}
use Rattle.sp_plan.specs.Moves.{Move, apply, apply_all, moves, closing}
use Rattle.sp_plan.specs.Reading.{event_of, after_event, read_one, reading}
use Rattle.sp_match.specs.public.Laws.{Sound, Leads, Below, RunsAreSound, HandlingIsLawful, SeveralAreLawful, MovesAreHandling, MovesLeadOn, ClosingEndsRuns, NumbersStayBelow}
use Rattle.sp_rules.specs.Lawful.{ReadingsAreLawful}

-- the moves of an event, where there is one
abbrev event_moves : Plan → State → ℕ → Option Event → List Move
event_moves q s number None = []
event_moves q s number (Some e) = moves q s (number, e)

-- the moves of one number
abbrev one_moves : Plan → List Event → List ℕ → State → ℕ → List Move
one_moves q events skipped s number = cond (is_among skipped number) [] (event_moves q s number (event_of events number))

-- the moves of k numbers behind the first n
abbrev moves_between : Plan → List Event → List ℕ → ℕ → ℕ → ℕ → List Move
moves_between q events skipped first n zero = []
moves_between q events skipped first n (suc k) = moves_between q events skipped first n k ++ one_moves q events skipped (reading q events skipped first (n + k)) (first + (n + k))

module _ (q : Plan) (handling : HandlingIsLawful) (starting : RunsAreSound) where
  event_sound : (s : State) (number : ℕ) (o : Option Event) → Sound s → Sound (after_event q s number o)
  event_sound s number None sound = sound
  event_sound s number (Some e) sound = handling.handled_sound q s (number, e) sound

  read_sound : (events : List Event) (skipped : List ℕ) (s : State) (number : ℕ) → Sound s → Sound (read_one q events skipped s number)
  read_sound events skipped s number sound = one (is_among skipped number)
    where
      one : (b : Bool) → Sound (cond b s (after_event q s number (event_of events number)))
      one true = sound
      one false = event_sound s number (event_of events number) sound

  reading_sound : (events : List Event) (skipped : List ℕ) (first n : ℕ) → Sound (reading q events skipped first n)
  reading_sound events skipped first zero = starting.at_first
  reading_sound events skipped first (suc n) = read_sound events skipped (reading q events skipped first n) (first + n) (reading_sound events skipped first n)

  module _ (moving : MovesAreHandling) where
    event_moved : (s : State) (number : ℕ) (o : Option Event) → Sound s → apply_all s (event_moves q s number o) ≡ after_event q s number o
    event_moved s number None sound = refl
    event_moved s number (Some e) sound = moving q s (number, e) sound.ordered

    read_moved : (events : List Event) (skipped : List ℕ) (s : State) (number : ℕ) → Sound s → apply_all s (one_moves q events skipped s number) ≡ read_one q events skipped s number
    read_moved events skipped s number sound = one (is_among skipped number)
      where
        one : (b : Bool) → apply_all s (cond b [] (event_moves q s number (event_of events number))) ≡ cond b s (after_event q s number (event_of events number))
        one true = refl
        one false = event_moved s number (event_of events number) sound

    -- the numbers behind the first n, as moves
    moved : (events : List Event) (skipped : List ℕ) (first n k : ℕ) → apply_all (reading q events skipped first n) (moves_between q events skipped first n k) ≡ reading q events skipped first (n + k)
    moved events skipped first n zero = let at : n ≡ n + 0 = omega arith in ap (reading q events skipped first) at
    moved events skipped first n (suc k) =
        let own : List Move = one_moves q events skipped (reading q events skipped first (n + k)) (first + (n + k)) in
        let at : suc (n + k) ≡ n + suc k = omega arith in
        fold-append apply (reading q events skipped first n) (moves_between q events skipped first n k) own
        ∙ ap (λ (s : State). apply_all s own) (moved events skipped first n k)
        ∙ read_moved events skipped (reading q events skipped first (n + k)) (first + (n + k)) (reading_sound events skipped first (n + k))
        ∙ ap (reading q events skipped first) at

    -- and the closing behind them
    moved_to_closing : ClosingEndsRuns → (events : List Event) (skipped : List ℕ) (first n k : ℕ)
        → apply_all (reading q events skipped first n) (moves_between q events skipped first n k ++ closing (reading q events skipped first (n + k))) ≡ after_closing (reading q events skipped first (n + k))
    moved_to_closing ends events skipped first n k =
        let last : State = reading q events skipped first (n + k) in
        fold-append apply (reading q events skipped first n) (moves_between q events skipped first n k) (closing last)
        ∙ ap (λ (s : State). apply_all s (closing last)) (moved events skipped first n k)
        ∙ ends last

module _ (q : Plan) (several : SeveralAreLawful) (staying : NumbersStayBelow) where
  -- what is below a number is below the next one
  below_next : (s : State) (number : ℕ) → Below number s → Below (number + 1) s
  below_next s number below = several.below q s [] number (number + 1) below (omega arith)

  event_below : (s : State) (number : ℕ) (o : Option Event) → Below number s → Below (number + 1) (after_event q s number o)
  event_below s number None below = below_next s number below
  event_below s number (Some e) below = staying q s (number, e) below

  read_below : (events : List Event) (skipped : List ℕ) (s : State) (number : ℕ) → Below number s → Below (number + 1) (read_one q events skipped s number)
  read_below events skipped s number below = one (is_among skipped number)
    where
      one : (b : Bool) → Below (number + 1) (cond b s (after_event q s number (event_of events number)))
      one true = below_next s number below
      one false = event_below s number (event_of events number) below

  reading_below : (events : List Event) (skipped : List ℕ) (first n : ℕ) → 1 ≤ first → Below (first + n) (reading q events skipped first n)
  reading_below events skipped first zero low = record {
    events = All-nil (λ (run : Started). All (λ (pair : Pair). pair.number < first + 0) run.1);
    started = omega arith;
  }
  reading_below events skipped first (suc n) low =
      let at : first + n + 1 ≡ first + suc n = omega arith in
      subst (λ (m : ℕ). Below m (reading q events skipped first (suc n))) at (read_below events skipped (reading q events skipped first n) (first + n) (reading_below events skipped first n low))

-- the law of readings
pub readings_are_lawful : (q : Plan) → HandlingIsLawful → RunsAreSound → MovesAreHandling → MovesLeadOn → ClosingEndsRuns → SeveralAreLawful → NumbersStayBelow → ReadingsAreLawful q
readings_are_lawful q handling starting moving leading ends several staying =
    let sound = reading_sound q handling starting in
    record {
      sound = sound;
      leads = λ events skipped first n k. subst (Leads q (reading q events skipped first n)) (moved q handling starting moving events skipped first n k)
          (leading q (reading q events skipped first n) (moves_between q events skipped first n k) (sound events skipped first n));
      leads_to_closing = λ events skipped first n k. subst (Leads q (reading q events skipped first n)) (moved_to_closing q handling starting moving ends events skipped first n k)
          (leading q (reading q events skipped first n) (moves_between q events skipped first n k ++ closing (reading q events skipped first (n + k))) (sound events skipped first n));
      below = reading_below q several staying;
    }
