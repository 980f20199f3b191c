-- The reading of a window by the numbers of its events tried on worked rows, by computation.
use Rattle.std.proofs.Common.{◌≡◌, ℕ, List, [], ◌∷◌, map, refl}
use Rattle.sp_plan.specs.declared.event.Event.{Event}
use Rattle.sp_plan.specs.declared.plan.Plan.{Plan}
use Rattle.sp_plan.specs.declared.plan.Select.TheVariants.{Each}
use Rattle.sp_plan.specs.declared.plan.Element.TheVariants.{One}
use Rattle.sp_plan.specs.declared.plan.Length.TheVariants.{Events}
use Rattle.sp_plan.specs.declared.plan.Opening.TheVariants.{EveryEvents}
use Rattle.sp_plan.specs.Runs.{State, matched_runs, used, state}
use Rattle.sp_plan.specs.Reading.{reading}
use Rattle.sp_plan.proofs.Worked.{plan, event, events, names_abc}

abbrev abc : Plan
abc = plan names_abc (One 0 ∷ One 1 ∷ One 2 ∷ []) Each (Events 9) (EveryEvents 9)

-- A A B C
abbrev aabc : List Event
aabc = events (0 ∷ 0 ∷ 1 ∷ 2 ∷ [])

-- the numbers that the matches used
abbrev used_in : State → List (List ℕ)
used_in s = map (used abc) (matched_runs s)

-- all four events: the older run matches
all_read : used_in (reading abc aabc [] 1 4) ≡ (1 ∷ 3 ∷ 4 ∷ []) ∷ []
all_read = refl

-- the first is skipped, or the window begins behind it: the other A starts the one run, which has number 1 then
first_skipped : reading abc aabc (1 ∷ []) 1 4 ≡ state abc ((2, event 2 0) ∷ (3, event 3 1) ∷ (4, event 4 2) ∷ [])
first_skipped = refl

begins_behind : reading abc aabc [] 2 3 ≡ reading abc aabc (1 ∷ []) 1 4
begins_behind = refl

-- B is skipped: nothing matches
middle_skipped : used_in (reading abc aabc (3 ∷ []) 1 4) ≡ []
middle_skipped = refl

-- numbers to skip in front of the events read and behind them don't count
skipped_outside : reading abc aabc (1 ∷ 4 ∷ 9 ∷ []) 2 2 ≡ reading abc aabc [] 2 2
skipped_outside = refl

-- behind the last event nothing is read
past_the_end : reading abc aabc [] 2 7 ≡ reading abc aabc [] 2 3
past_the_end = refl
