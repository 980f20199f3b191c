use Rattle.sp_hub.proofs.Steps.{puts_again}
use Rattle.sp_hub.proofs.way.bring.Goals as goal

pub push_as-requires-clause-rule : goal.push_as-requires-clause-rule
push_as-requires-clause-rule g c =
    (puts_again g.P.Named.ticket_of _ _ _ _ _ c.args.number c.args.piece c.requires.sits c.loop.invariant.3 c.loop.invariant.4, λ items views h at. tt)
