use Rattle.sp_hub.proofs.Steps.{gets}
use Rattle.sp_hub.proofs.way.fetch.Goals as goal

pub pop_as-requires-clause-rule : goal.pop_as-requires-clause-rule
pop_as-requires-clause-rule g c =
    (gets g.P.Named.ticket_of _ _ c.requires.posts, λ items views h at. tt)
