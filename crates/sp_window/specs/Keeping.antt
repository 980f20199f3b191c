-- How windows are kept.
use Rattle.std.specs.Prelude.{Bool, List}
use Rattle.std.specs.Arc.{arc_value}
use Rattle.sp_plan.specs.declared.event.Event.{Event}
use Rattle.sp_plan.specs.Compiled.{IsCompiled}
use Rattle.sp_window.specs.declared.windows.Windows.TheInside.{Inside}
use Rattle.sp_window.specs.Standing.{Kept, Stands}

-- what is kept
abbrev pub kept_of : Inside → Kept
kept_of a = record { plan = arc_value a.plan; fed = a.fed; time = a.time; ended = a.ended; held = record { records = a.records.items; shut = a.closed; next = a.next } }

-- the plan is compiled, and there are events that the windows stand for
pub record IsKept (a : Inside) : Type 0 where
  pub compiled : IsCompiled (arc_value a.plan)
  pub events : List Event
  pub ended : Bool
  pub stands : Stands (kept_of a) events ended
