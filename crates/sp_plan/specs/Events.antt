-- Which events a plan takes: their values fit its columns, and their times never go back.
use Rattle.std.specs.Prelude.{◌≡◌, ℕ, pos, ◌≤◌, ◌≤ℤ◌, Bool, true, false, ◌&&◌, List, length, Some, slice_get, ◌==◌, nat_le, int_le, unsigned_abs}
use Rattle.std.specs.List.{All, list_all, zip}
use Rattle.sp_base.specs.Limits.{number_limit}
use Rattle.sp_plan.specs.declared.event.Event.{Event}
use Rattle.sp_plan.specs.declared.event.Value.{Value}
use Rattle.sp_plan.specs.declared.event.Value.TheVariants.{Number, Symbol}
use Rattle.sp_plan.specs.declared.plan.Column.{Column}
use Rattle.sp_plan.specs.declared.plan.Kind.{Kind}
use Rattle.sp_plan.specs.declared.plan.Kind.TheVariants.{Int, Dec, Text}
use Rattle.sp_plan.specs.declared.plan.Plan.{Plan}

-- a value is of the kind, and a number is at most 10 to the power of 15 in magnitude
abbrev pub fits_kind : Kind → Value → Bool
fits_kind Int (Number n) = nat_le (unsigned_abs n) number_limit
fits_kind (Dec p) (Number n) = nat_le (unsigned_abs n) number_limit
fits_kind Text (Number n) = false
fits_kind Int (Symbol s) = false
fits_kind (Dec p) (Symbol s) = false
fits_kind Text (Symbol s) = true

-- a value stands in its column
abbrev pub fits_column : Column × Value → Bool
fits_column pair = fits_kind pair.0.kind pair.1

-- an event has one value of the right sort for each column, and its time is 0 to 10 to the power of 15
abbrev pub fits : Plan → Event → Bool
fits q e =
    length q.schema.columns == length e.values && list_all fits_column (zip q.schema.columns e.values)
    && int_le (pos 0) e.time && int_le e.time (pos number_limit)

-- every event fits the plan
abbrev pub AllFit : Plan → List Event → Type 0
AllFit q events = All (λ e. fits q e ≡ true) events

-- no event has a time below that of an event before it
abbrev pub NeverGoesBack : List Event → Type 0
NeverGoesBack events =
    (i j : ℕ) (x y : Event) → i ≤ j → slice_get events i ≡ Some x → slice_get events j ≡ Some y → x.time ≤ℤ y.time
