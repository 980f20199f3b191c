-- Generated rows under a plan that reads them.
use Rattle.std.specs.Prelude.{◌≡◌, ℕ, pos, ◌≤◌, List, [], ◌∷◌, length, map, true, Some, codes}
use Rattle.std.specs.List.{range_with_len}
use Rattle.sp_base.specs.Limits.{event_limit}
use Rattle.sp_plan.specs.declared.plan.Column.{Column}
use Rattle.sp_plan.specs.declared.plan.Kind.TheVariants.{Int, Dec, Text}
use Rattle.sp_plan.specs.declared.plan.Plan.{Plan}
use Rattle.sp_ports.specs.declared.stop.Stop.TheVariants.{End}
use Rattle.sp_intake.specs.Reading.{Reading, read, stop_of}
use Rattle.sp_gen.specs.Generated.{generated}

-- the columns of a drill: the time, the symbol and the price with two decimals
abbrev pub drill_columns : List Column
drill_columns =
    record { name = codes "at"; kind = Int } ∷ record { name = codes "sym"; kind = Text } ∷ record { name = codes "price"; kind = Dec 2 } ∷ []

-- the plan has these columns, and the first one is the time
pub record IsDrillSchema (q : Plan) : Type 0 where
  pub columns : q.schema.columns ≡ drill_columns
  pub time : q.schema.time ≡ Some 0

-- the input was read to its end, and gave so many events, at the times from 1 on
pub record IsReadThrough (events : ℕ) (r : Reading) : Type 0 where
  pub stop : stop_of r true ≡ End
  pub count : length r.events ≡ events
  pub times : map (λ e. e.time) r.events ≡ map pos (range_with_len 1 events)

-- a table of as many events as an input may have, or fewer, is read through by such a plan, whatever its seed
abbrev pub GeneratedRowsAreRead : Type 0
GeneratedRowsAreRead = (q : Plan) (events seed : ℕ) → IsDrillSchema q → events ≤ event_limit → IsReadThrough events (read q (generated events seed) true)
