-- Plans that run in place of one another.
use Rattle.std.specs.Prelude.{◌≡◌, Bool, List}
use Rattle.sp_plan.specs.declared.event.Event.{Event}
use Rattle.sp_plan.specs.declared.plan.Plan.{Plan}
use Rattle.sp_plan.specs.Compiled.{IsCompiled}
use Rattle.sp_plan.specs.Sequential.{whole}
use Rattle.sp_ports.specs.Giving.{AreGood}

-- A plan may run in place of another: it is compiled, has the same columns, and finds the same matches in all events that an engine takes.
pub record RunsAs (q own : Plan) : Type 0 where
  pub compiled : IsCompiled own
  pub columns : own.schema.columns ≡ q.schema.columns
  pub matches : (events : List Event) (ended : Bool) → AreGood q events → (whole own events ended).matches ≡ (whole q events ended).matches
