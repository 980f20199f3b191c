use Rattle.sp_plan.specs.declared.plan.Element.TheVariants.{One}
use Rattle.sp_scan.proofs.MaskedNames.{bit_more, leads_more, own_bit}
use Rattle.sp_scan.proofs.ahead.leading.Goals as goal

pub loop-element-preserved : goal.loop-element-preserved
loop-element-preserved c =
    let old = c.loop-element.all in
    let new = c.with_bit-all.result in
    let name = c.in-Never.name in
    leads_more old new c.args.elements.now c.loop-element.element-index name (One 0) c.loop-element-test.true c.in-Never.is (bit_more old new name c.with_bit-all.ensures.same c.with_bit-all.ensures.others) (own_bit old new name c.with_bit-all.ensures.same) c.loop-element.invariant
