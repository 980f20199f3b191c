use Rattle.sp_hub.proofs.Steps.{merges}
use Rattle.sp_hub.proofs.way.take_back.Goals as goal

pub absorb-requires-clause-rule : goal.absorb-requires-clause-rule
absorb-requires-clause-rule g c = merges g.P.Named.ticket_of _ _ _ _ c.requires.posts c.requires.sits
