use Rattle.std.proofs.Common.{◌≡◌, true, false, get_or, arith}
use Rattle.sp_plan.specs.declared.pairs.Pair.{Pair}
use Rattle.sp_plan.specs.Blocks.{seen}
use Rattle.sp_plan.proofs.Zips.{zip_more, items_differ, all_alike, maps_told}
use Rattle.sp_plan.proofs.bound.same_pairs.Goals as goal

pub returns-then-not-same_pair : goal.returns-then-not-same_pair
returns-then-not-same_pair c =
    let x : Pair = c.at.result.now in
    let y : Pair = c.at-in-loop-i.result.now in
    let one : x ≡ get_or c.args.xs.now c.loop-i.i x = c.at.ensures in
    let other : y ≡ get_or c.args.ys.now c.loop-i.i y = c.at-in-loop-i.ensures in
    maps_told seen false c.args.xs.now c.args.ys.now
    (items_differ (λ p q. seen p ≡ seen q) c.args.xs.now c.args.ys.now c.loop-i.i x y (omega arith) one other (λ h. cc (c.same_pair.ensures.1 h, c.if-not-same_pair.true)))

pub loop-i-preserved : goal.loop-i-preserved
loop-i-preserved c =
    let x : Pair = c.at.result.now in
    let y : Pair = c.at-in-loop-i.result.now in
    let one : x ≡ get_or c.args.xs.now c.loop-i.i x = c.at.ensures in
    let other : y ≡ get_or c.args.ys.now c.loop-i.i y = c.at-in-loop-i.ensures in
    record {
      sizes = c.loop-i.invariant.sizes;
      alike =
          zip_more (λ p q. seen p ≡ seen q) c.args.xs.now c.args.ys.now c.loop-i.i x y c.loop-i.invariant.sizes (omega arith) one other c.loop-i.invariant.alike
          (c.same_pair.ensures.0 c.if-not-same_pair.false);
    }

pub returns : goal.returns
returns c =
    maps_told seen true c.args.xs.now c.args.ys.now
    (all_alike (λ p q. seen p ≡ seen q) c.args.xs.now c.args.ys.now c.loop-i.i c.loop-i.invariant.sizes (omega arith) c.loop-i.invariant.alike)
