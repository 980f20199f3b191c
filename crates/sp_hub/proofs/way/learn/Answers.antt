use Rattle.sp_hub.proofs.Steps.{tells}
use Rattle.sp_hub.proofs.way.learn.Goals as goal

pub learn_as-requires-clause-rule : goal.learn_as-requires-clause-rule
learn_as-requires-clause-rule g c = tells g.P.Named.ticket_of _ _ c.requires.posts
