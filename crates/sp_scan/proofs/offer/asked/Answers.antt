use Rattle.std.proofs.Common.{List, length, get_or, sym, ap, ◌∙◌, arith}
use Rattle.sp_plan.specs.declared.plan.Name.{Name}
use Rattle.sp_plan.specs.Values.{holds}
use Rattle.sp_scan.proofs.MayHold.{below_all, below_more}
use Rattle.sp_scan.proofs.offer.asked.Goals as goal

pub loop-place-preserved : goal.loop-place-preserved
loop-place-preserved c =
    let q = c.args.plan.now in
    let e = c.args.event.now in
    let place = c.loop-place.place in
    let name = c.index-names-place.result in
    below_more q e c.loop-place.mask c.with_bit-mask.result place c.may_hold.result name (omega (arith, c.loop-place-test.true, ap length c.as_slice-names.ensures)) c.loop-place.invariant c.with_bit-mask.ensures.same c.with_bit-mask.ensures.others
    (λ fails b. ap (λ (l : List Name). holds (get_or l place name).pred e b) (sym c.as_slice-names.ensures) ∙ c.may_hold.ensures.sure fails b)

pub returns : goal.returns
returns c = below_all c.args.plan.now c.args.event.now c.loop-place.mask c.loop-place.place (omega (arith, c.loop-place-test.false, ap length c.as_slice-names.ensures)) c.loop-place.invariant
