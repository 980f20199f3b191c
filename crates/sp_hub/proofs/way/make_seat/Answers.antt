use Rattle.sp_hub.proofs.Steps.{seats}
use Rattle.sp_hub.proofs.way.make_seat.Goals as goal

pub another-requires-clause-rule : goal.another-requires-clause-rule
another-requires-clause-rule g c = seats g.P.Named.ticket_of _ _ c.requires.early
