use Rattle.std.proofs.Common.{◌≡◌, ◌++◌, map, take}
use Rattle.std.specs.Prelude.{string_bytes}
use Rattle.sp_emit.specs.StateLines.{ticket_line}
use Rattle.sp_group.specs.Seen.{seen_ticket}
use Rattle.sp_emit.proofs.state.add_tickets.Given as goal

abbrev pub invariant-loop-ticket : goal.invariant-loop-ticket
invariant-loop-ticket l = map string_bytes l.lines.items ≡ map string_bytes l.initial.lines.items ++ map ticket_line (map seen_ticket (take l.ticket-index l.tickets))
