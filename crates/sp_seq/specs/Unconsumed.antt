-- The events of a part of the input that a run may take.
use Rattle.std.specs.Prelude.{ℕ, List, not, filter, slice_range}
use Rattle.sp_base.specs.Numbers.{is_among}
use Rattle.sp_plan.specs.declared.event.Event.{Event}
use Rattle.sp_plan.specs.Windows.{Numbered, numbered}

-- the events from place first on below end that are not consumed, with their numbers
abbrev pub unconsumed : List ℕ → List Event → ℕ → ℕ → List Numbered
unconsumed consumed events first end = filter (λ x. not (is_among consumed x.0)) (slice_range (numbered events) first end)
