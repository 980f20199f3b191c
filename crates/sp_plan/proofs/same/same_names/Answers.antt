use Rattle.std.proofs.Common.{◌≡◌, get_or, arith}
use Rattle.sp_plan.specs.Same.{SameName}
use Rattle.sp_plan.specs.declared.plan.Name.{Name}
use Rattle.sp_plan.proofs.Zips.{zip_more}
use Rattle.sp_plan.proofs.same.same_names.Goals as goal

pub loop-i-preserved : goal.loop-i-preserved
loop-i-preserved c =
    let x : Name = c.index-xs-i.result in
    let y : Name = c.index-ys-i.result in
    let one : x ≡ get_or c.args.xs.now c.loop-i.i x = c.index-xs-i.is in
    let other : y ≡ get_or c.args.ys.now c.loop-i.i y = c.index-ys-i.is in
    let same : SameName x y = c.same_name.ensures.0 c.if-not-same_name.false in
    record {
      sizes = c.loop-i.invariant.sizes;
      alike = zip_more SameName c.args.xs.now c.args.ys.now c.loop-i.i x y c.loop-i.invariant.sizes (omega arith) one other c.loop-i.invariant.alike same;
    }
