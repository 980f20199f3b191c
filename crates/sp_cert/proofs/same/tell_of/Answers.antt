use Rattle.std.proofs.Common.{refl, arith}
use Rattle.sp_cert.specs.Checking.{TellsOf}
use Rattle.sp_cert.proofs.Matches.{tell_more}
use Rattle.sp_cert.proofs.same.tell_of.Goals as goal

pub loop-place-preserved : goal.loop-place-preserved
loop-place-preserved c =
    let tells : TellsOf c.args.window c.index-matches-place.result c.index-runs-place.result = c.if-not-tells_of.ensures.0 refl in
    tell_more c.args.window c.loop-place.place c.args.matches.now c.args.runs.now c.index-matches-place.result c.index-runs-place.result (omega arith) (omega arith) c.index-matches-place.is c.index-runs-place.is c.loop-place.invariant tells
