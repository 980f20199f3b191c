-- The status of a run of the machine.
use Rattle.std.specs.Prelude.{ℕ}
use Rattle.sp_slack.specs.declared.late.LateRule.{LateRule}
use Rattle.sp_ports.specs.declared.stop.Stop.TheVariants.{End}
use Rattle.sp_split.specs.declared.ended.Why.{Why}
use Rattle.sp_split.specs.declared.ended.Why.TheVariants as why
use Rattle.sp_answer.specs.declared.status.Status.{Status}
use Rattle.sp_answer.specs.declared.status.Status.TheVariants.{Memory, Write}
use Rattle.sp_answer.specs.declared.written.Written.{Written}
use Rattle.sp_answer.specs.declared.written.Written.TheVariants as w
use Rattle.sp_commands.specs.Ends.{late_status}

-- The status of a run of the machine, by why it ended: one that ended with its input has that of the end, or of the stop, where so many late events were
-- passed over or the first was refused.
abbrev pub status_of_end : LateRule → ℕ → Why → Status
status_of_end rule late why.Whole = late_status rule late End
status_of_end rule late (why.Stopped stop) = late_status rule late stop
status_of_end rule late why.Refused = Write
status_of_end rule late why.Memory = Memory

-- whether the output took all that was put, by why the driving ended
abbrev pub written_by : Why → Written
written_by why.Whole = w.All
written_by (why.Stopped stop) = w.All
written_by why.Refused = w.Failed
written_by why.Memory = w.All
