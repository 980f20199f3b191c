use Rattle.std.proofs.Common.{◌≡◌, map, take}
use Rattle.sp_group.specs.Seen.{seen_ticket, ticket_seen}
use Rattle.sp_core.specs.Carrying.{ticket_of}
use Rattle.sp_core.proofs.state.ticket_lines.Given as goal

abbrev pub invariant-loop-lent : goal.invariant-loop-lent
invariant-loop-lent l = map seen_ticket l.lines.items ≡ map ticket_seen (map ticket_of (take l.lent-index l.tickets))
