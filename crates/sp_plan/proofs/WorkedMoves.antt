-- The moves of single events tried on worked rows, by computation.
use Rattle.std.proofs.Common.{◌≡◌, ℕ, Bool, true, false, List, [], ◌∷◌, refl}
use Rattle.sp_plan.specs.declared.plan.Plan.{Plan}
use Rattle.sp_plan.specs.declared.plan.Select.{Select}
use Rattle.sp_plan.specs.declared.plan.Select.TheVariants.{First, Last, Each}
use Rattle.sp_plan.specs.declared.plan.Element.TheVariants.{One, Plus}
use Rattle.sp_plan.specs.declared.plan.Length.TheVariants.{Events}
use Rattle.sp_plan.specs.declared.plan.Opening.TheVariants.{EveryEvents}
use Rattle.sp_plan.specs.Windows.{numbered}
use Rattle.sp_plan.specs.Runs.{State, state}
use Rattle.sp_plan.specs.Moves.{Told, OpenedTold, GrownTold, CompletedTold, AbandonedTold, apply_all, moves, closing, told, still_wanted}
use Rattle.sp_plan.proofs.Worked.{plan, is, event, events, names_ab, names_abc, a_then_b}

-- the runs after events of these symbols
abbrev after : Plan → List ℕ → State
after q symbols = state q (numbered (events symbols))

-- the moves of the event of that number and symbol after these, as they are told
abbrev pub then_told : Plan → List ℕ → ℕ → ℕ → List Told
then_told q symbols number symbol = told q (after q symbols) (moves q (after q symbols) (number, event number symbol))

abbrev pub then_wanted : Plan → List ℕ → ℕ → ℕ → List (ℕ × ℕ)
then_wanted q symbols number symbol = still_wanted q (after q symbols) (moves q (after q symbols) (number, event number symbol))

abbrev abc : Select → Plan
abc select = plan names_abc (One 0 ∷ One 1 ∷ One 2 ∷ []) select (Events 9) (EveryEvents 9)

abbrev ab : Bool → Bool → Select → Plan
ab first second select = plan (names_ab first second) a_then_b select (Events 9) (EveryEvents 9)

-- the older run completes, and the younger one, which holds event 3 too, is abandoned at once
completes_and_abandons : then_told (abc Each) (0 ∷ 0 ∷ 1 ∷ []) 4 2
    ≡ GrownTold 1 4 ∷ CompletedTold 1 ((0, 1 ∷ []) ∷ (1, 3 ∷ []) ∷ (2, 4 ∷ []) ∷ []) (1 ∷ 3 ∷ 4 ∷ []) ∷ AbandonedTold 2 ∷ []
completes_and_abandons = refl

completes_and_abandons_leads : apply_all (after (abc Each) (0 ∷ 0 ∷ 1 ∷ [])) (moves (abc Each) (after (abc Each) (0 ∷ 0 ∷ 1 ∷ [])) (4, event 4 2)) ≡ after (abc Each) (0 ∷ 0 ∷ 1 ∷ 2 ∷ [])
completes_and_abandons_leads = refl

-- of two open runs one completes: it wanted one event and wants none; the abandoned one is not told of
completes_wanted : then_wanted (abc Each) (0 ∷ 0 ∷ 1 ∷ []) 4 2 ≡ (1, 0) ∷ []
completes_wanted = refl

-- a run binds the event, and the same event starts no run under FIRST
grows_only : then_told (ab true true First) (0 ∷ []) 2 0 ≡ []
grows_only = refl

-- under LAST the open run leaves and a new one starts
last_starts_anew : then_told (ab true true Last) (0 ∷ []) 2 0 ≡ AbandonedTold 1 ∷ OpenedTold 2 ∷ GrownTold 2 2 ∷ []
last_starts_anew = refl

-- the event is not consumed, so both runs complete with it
both_complete : then_told (ab true false Each) (0 ∷ 0 ∷ []) 3 1
    ≡ GrownTold 1 3 ∷ CompletedTold 1 ((0, 1 ∷ []) ∷ (1, 3 ∷ []) ∷ []) (1 ∷ []) ∷ GrownTold 2 3 ∷ CompletedTold 2 ((0, 2 ∷ []) ∷ (1, 3 ∷ []) ∷ []) (2 ∷ []) ∷ []
both_complete = refl

-- the event is consumed by the older run, so the younger one is not offered it and wants what it wanted
consumed_before_the_younger : then_wanted (ab true true Each) (0 ∷ 0 ∷ []) 3 1 ≡ (1, 0) ∷ (1, 1) ∷ []
consumed_before_the_younger = refl

-- a run that starts and completes at once
starts_and_completes : then_told (plan (is (◌∷◌ 65 []) 0 true ∷ []) (One 0 ∷ []) First (Events 9) (EveryEvents 9)) [] 1 0
    ≡ OpenedTold 1 ∷ GrownTold 1 1 ∷ CompletedTold 1 ((0, 1 ∷ []) ∷ []) (1 ∷ []) ∷ []
starts_and_completes = refl

-- a run of B once or more that has an event wants C alone, and stays so when it binds one more
wants_after_once_or_more : then_wanted (plan names_abc (One 0 ∷ Plus 1 ∷ One 2 ∷ []) First (Events 9) (EveryEvents 9)) (0 ∷ 1 ∷ []) 3 1 ≡ (1, 1) ∷ []
wants_after_once_or_more = refl

-- the closing abandons all open runs by number
closing_abandons : told (abc Each) (after (abc Each) (0 ∷ 0 ∷ [])) (closing (after (abc Each) (0 ∷ 0 ∷ []))) ≡ AbandonedTold 1 ∷ AbandonedTold 2 ∷ []
closing_abandons = refl
