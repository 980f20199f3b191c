use Rattle.std.proofs.Common.{refl, arith}
use Rattle.sp_match.specs.declared.known.Known.TheVariants.{Never}
use Rattle.sp_piece.proofs.Quiet.{one_more_quiet}
use Rattle.sp_piece.proofs.reading.quiet_to.Goals as goal

pub loop-place-preserved : goal.loop-place-preserved
loop-place-preserved c =
    one_more_quiet c.args.led.now c.args.known.now c.args.from c.loop-place.place Never c.loop-place.invariant
    (record { stands = c.if-not-ignores.ensures.stands refl; told = c.if-not-ignores.ensures.told refl; wanted = c.if-not-ignores.ensures.wanted refl })

pub returns-clause-quiet : goal.returns-clause-quiet
returns-clause-quiet c = λ i k from less at. c.loop-place.invariant i k from (omega arith) at
