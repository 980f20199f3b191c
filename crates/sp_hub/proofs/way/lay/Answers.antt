use Rattle.sp_hub.proofs.Steps.{begins}
use Rattle.sp_hub.proofs.way.lay.Goals as goal

pub ruled-requires-clause-rule : goal.ruled-requires-clause-rule
ruled-requires-clause-rule g c = begins g.P.Named.ticket_of
