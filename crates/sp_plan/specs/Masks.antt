-- Runs as bits of a number.
use Rattle.std.specs.Prelude.{ℕ, Bool, List, [], ◌==◌, slice_index_or}
use Rattle.std.specs.Int.{bit_at}
use Rattle.sp_plan.specs.declared.event.Event.{Event}
use Rattle.sp_plan.specs.declared.plan.Pred.{Pred}
use Rattle.sp_plan.specs.Values.{BoundEvents, holds}

-- whether a mask has the bit of a run
abbrev pub has : ℕ → ℕ → Bool
has mask run = bit_at mask run == 1

-- what a predicate says of the event at hand for the run at a place, over the events that it has bound
abbrev pub outcome : Pred → Event → List BoundEvents → ℕ → Bool
outcome p e bounds run = holds p e (slice_index_or bounds run [])
