use Rattle.std.proofs.Common.{◌≡◌, drop, map}
use Rattle.sp_group.specs.Machine.{ticket_at}
use Rattle.sp_core.specs.Carrying.{ticket_of}
use Rattle.sp_core.proofs.machine.Core.place_of.Given as goal

abbrev pub invariant-loop-i : goal.invariant-loop-i
invariant-loop-i l = ticket_at (map ticket_of l.self-inside.tickets.items) l.ticket ≡ ticket_at (map ticket_of (drop l.i l.self-inside.tickets.items)) l.ticket
