use Rattle.std.proofs.Common.{arith}
use Rattle.sp_core.proofs.Numbering.{more_numbered}
use Rattle.sp_core.proofs.finishing.number_from.Goals as goal

pub loop-found-preserved : goal.loop-found-preserved
loop-found-preserved c =
    let l = c.loop-found in
    let number = l.invariant.number in
    let within = c.loop-found-test.true in
    record {
      number = omega arith;
      items = more_numbered l.found-index l.number c.args.first c.deref_mut-found-items.result.now l.found-items c.found-item.result (omega arith) number l.invariant.items;
    }
