-- The definitions tried on worked events, by computation.
use Rattle.std.proofs.Common.{◌≡◌, ℕ, pos, true, false, List, [], ◌∷◌, map, refl}
use Rattle.sp_plan.specs.declared.event.Event.{Event}
use Rattle.sp_plan.specs.declared.event.Value.TheVariants.{Symbol}
use Rattle.sp_slack.specs.HeldBack.{slacked, is_late}

-- an event of this time, and a text by which it is told
abbrev at : ℕ × ℕ → Event
at one = record { time = pos one.0; values = Symbol one.1 ∷ [] }

abbrev came : List (ℕ × ℕ) → List Event
came all = map at all

-- out of order by 1: while more may come, those up to 2 before the greatest
out_of_order : slacked (pos 2) (came ((1, 0) ∷ (3, 1) ∷ (2, 2) ∷ (4, 3) ∷ [])) false ≡ came ((1, 0) ∷ (2, 2) ∷ [])
out_of_order = refl

-- and all of them at the end
at_the_end : slacked (pos 2) (came ((1, 0) ∷ (3, 1) ∷ (2, 2) ∷ (4, 3) ∷ [])) true ≡ came ((1, 0) ∷ (2, 2) ∷ (3, 1) ∷ (4, 3) ∷ [])
at_the_end = refl

-- those of one time stand as they arrived
ties : slacked (pos 0) (came ((5, 0) ∷ (5, 1) ∷ (5, 2) ∷ [])) false ≡ came ((5, 0) ∷ (5, 1) ∷ (5, 2) ∷ [])
ties = refl

-- one that comes later than others of its time stands behind them
late_tie : slacked (pos 3) (came ((5, 0) ∷ (7, 1) ∷ (5, 2) ∷ [])) true ≡ came ((5, 0) ∷ (5, 2) ∷ (7, 1) ∷ [])
late_tie = refl

-- none is late where none came, one that is just the slack behind is not, and one further is
first_is_not_late : is_late (pos 0) [] (at (0, 0)) ≡ false
first_is_not_late = refl

slack_behind_is_not_late : is_late (pos 2) (came ((1, 0) ∷ (4, 1) ∷ [])) (at (2, 2)) ≡ false
slack_behind_is_not_late = refl

further_behind_is_late : is_late (pos 2) (came ((1, 0) ∷ (4, 1) ∷ [])) (at (1, 2)) ≡ true
further_behind_is_late = refl

-- the greatest time counts, and not the last
greatest_counts : is_late (pos 2) (came ((9, 0) ∷ (7, 1) ∷ [])) (at (6, 2)) ≡ true
greatest_counts = refl

-- a slack that reaches below 0
nothing_late : is_late (pos 10) (came ((3, 0) ∷ [])) (at (0, 1)) ≡ false
nothing_late = refl
