use Rattle.std.proofs.Common.{ℤ, ◌≤◌, pos, length, get_or, ap, arith, rules, w64, to_z, of_z, SFits}
use Rattle.std.proofs.lemmas.Int.{ints}
use Rattle.sp_plan.proofs.Columns.{between_more}
use Rattle.sp_plan.proofs.column.HeldColumn.of.Goals as goal

pub loop-value-preserved : goal.loop-value-preserved
loop-value-preserved c =
    let values = c.deref-value-items.result.now in
    let value : ℤ = get_or values c.loop-value.value-index (pos 0) in
    let fits : SFits w64 value = search rules in
    let few : length values ≤ 64 = omega (arith, c.requires, ap length c.deref-value-items.ensures.value) in
    between_more values c.loop-value.value-index (to_z w64 c.loop-value.least-bits) (to_z w64 c.loop-value.greatest-bits) (to_z w64 (of_z w64 c.min-least.result)) (to_z w64 (of_z w64 c.max-greatest.result))
    few c.loop-value-test.true c.loop-value.invariant
    (omega (arith, ints, c.min-least.ensures.self_bound)) (omega (arith, ints, c.min-least.ensures.other_bound)) (omega (arith, ints, c.max-greatest.ensures.self_bound)) (omega (arith, ints, c.max-greatest.ensures.other_bound))
