use Rattle.std.proofs.Common.{◌≡◌, ◌++◌}
use Rattle.sp_slack.specs.Standing.{kept_of}
use Rattle.sp_commands.proofs.Holding.{Holds}
use Rattle.sp_commands.proofs.sorted.hold.Given as goal

abbrev pub invariant-loop-event : goal.invariant-loop-event
invariant-loop-event l =
    (l.yielded ++ l.event-iterator.rest.items ≡ l.fn.events.items) × Holds l.fn.held.slack (kept_of l.held) l.yielded l.event-iterator.rest.items
