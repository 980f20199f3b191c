-- The status of each cause that ends a command.
use Rattle.std.specs.Prelude.{ℕ, Bool, List, Result, Ok, Err}
use Rattle.std.specs.declared.alloc.AllocError.{AllocError}
use Rattle.sp_plan.specs.declared.event.Event.{Event}
use Rattle.sp_plan.specs.declared.plan.Plan.{Plan}
use Rattle.sp_slack.specs.HeldBack.{slacked}
use Rattle.sp_slack.specs.declared.late.LateRule.{LateRule}
use Rattle.sp_slack.specs.declared.late.LateRule.TheVariants.{Drop}
use Rattle.sp_intake.specs.Loose.{Lateness, loose}
use Rattle.sp_intake.specs.Reading.{read, stop_of}
use Rattle.sp_ports.specs.Stopping.{is_end}
use Rattle.sp_ports.specs.declared.stop.Stop.{Stop}
use Rattle.sp_ports.specs.declared.stop.Stop.TheVariants.{End, Failed, Open}
use Rattle.sp_ports.specs.declared.stop.Failure.{Failure}
use Rattle.sp_ports.specs.declared.stop.Failure.TheVariants.{Row, Limit}
use Rattle.sp_load.specs.declared.refusal.Refusal.{Refusal}
use Rattle.sp_load.specs.declared.refusal.Refusal.TheVariants as r
use Rattle.sp_answer.specs.Outcome.{Outcome, outcome}
use Rattle.sp_answer.specs.declared.status.Status.{Status}
use Rattle.sp_answer.specs.declared.status.Status.TheVariants.{Done, DoneLate, Memory, Query, Second, Input, Read, Write, Limited}
use Rattle.sp_answer.specs.declared.written.Written.{Written}
use Rattle.sp_answer.specs.declared.written.Written.TheVariants as w

abbrev pub status_of_failure : Failure → Status
status_of_failure (Row code row column) = Input code row column
status_of_failure (Limit limit) = Limited limit

-- why the reading of the input stopped
abbrev pub status_of : Stop → Status
status_of End = Done
status_of (Failed failure) = status_of_failure failure
status_of Open = Read

-- why a file was not loaded, or why there is no plan
abbrev pub status_of_refusal : Refusal → Status
status_of_refusal r.Memory = Memory
status_of_refusal r.Read = Read
status_of_refusal (r.Limited limit) = Limited limit
status_of_refusal (r.Query code at) = Query code at

-- why there is no plan of a second query
abbrev pub status_of_second : Refusal → Status
status_of_second (r.Query code at) = Second code at
status_of_second refusal = status_of_refusal refusal

-- the status of a command whose reading has this one, and whose lines were written so
abbrev pub written_status : Status → Result Written AllocError → Status
written_status status (Ok w.All) = status
written_status status (Ok w.Failed) = Write
written_status status (Err e) = Memory

-- What a command makes of the bytes of its input: the events that its engine is given, why the reading stops, and the status where all lines are
-- written.
pub record Came : Type 0 where
  pub events : List Event
  pub stop : Stop
  pub status : Status

-- what comes of bytes, where the input ends behind them or goes on
abbrev pub CameFrom : Type 0
CameFrom = List ℕ → Bool → Came

-- where times may not go back
abbrev pub came : Plan → CameFrom
came q bytes ended =
    let stop = stop_of (read q bytes ended) ended in
    record { events = (read q bytes ended).events; stop = stop; status = status_of stop }

-- the end of the input tells how many events came too late, where these are passed over
abbrev pub late_status : LateRule → ℕ → Stop → Status
late_status Drop late End = DoneLate late
late_status rule late stop = status_of stop

-- where events may be late by so much: they are given by time
abbrev pub came_within : Plan → Lateness → CameFrom
came_within q l bytes ended =
    let r = loose q l bytes ended in
    let stop = stop_of r.reading ended in
    record { events = slacked l.slack r.reading.events (is_end stop); stop = stop; status = late_status l.rule r.late stop }

-- what a command over the input comes to: the status, and a text by the events and the stop
abbrev pub reading_outcome : CameFrom → (List Event → Stop → List ℕ) → List ℕ → Bool → Outcome
reading_outcome way text_for bytes ended = outcome (way bytes ended).status (text_for (way bytes ended).events (way bytes ended).stop)
