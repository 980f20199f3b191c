use Rattle.std.proofs.Common.{◌≡◌, take}
use Rattle.std.specs.Prelude.{string_bytes}
use Rattle.sp_sched.specs.Schedules.{schedule_text}
use Rattle.sp_sched.proofs.print.print_schedule.Given as goal

abbrev pub invariant-loop-step : goal.invariant-loop-step
invariant-loop-step l = string_bytes l.out ≡ schedule_text (take l.step-index l.steps)
