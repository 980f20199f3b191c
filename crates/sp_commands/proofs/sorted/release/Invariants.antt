use Rattle.std.proofs.Common.{List}
use Rattle.sp_plan.specs.declared.event.Event.{Event}
use Rattle.sp_slack.specs.Standing.{kept_of, Stands}
use Rattle.sp_commands.proofs.Holding.{Gave}
use Rattle.sp_commands.proofs.sorted.release.Given as goal

-- what was given are the first of the events that are to be given, one a turn
abbrev pub invariant-loop : goal.invariant-loop
invariant-loop l = (events : List Event) → Stands (kept_of l.fn.held) events 0 → Gave (kept_of l.fn.held) (kept_of l.held) events l.given.items l.counter
