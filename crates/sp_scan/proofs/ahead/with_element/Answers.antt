use Rattle.std.proofs.Common.{arith}
use Rattle.sp_scan.proofs.MaskedNames.{bit_more, own_bit, range_more}
use Rattle.sp_scan.proofs.ahead.with_element.Goals as goal

pub loop-name-preserved : goal.loop-name-preserved
loop-name-preserved c =
    let old = c.loop-name.all in
    let new = c.with_bit-all.result in
    let name = c.loop-name.name in
    let keeps = bit_more old new name c.with_bit-all.ensures.same c.with_bit-all.ensures.others in (
      λ other there. keeps other (c.loop-name.invariant.0 other there),
      range_more old new c.span-first.result.0 name (omega arith) keeps (own_bit old new name c.with_bit-all.ensures.same) c.loop-name.invariant.1,
    )
