use Rattle.std.proofs.Common.{◌≡◌, ℕ, ℤ, ◌-◌, Bool, pos, eqb, length, get_or, arith, rules, w64, to_z, of_z}
use Rattle.std.specs.Ordering.{int_eq}
use Rattle.sp_plan.proofs.MaskBits.{seen_before}
use Rattle.sp_plan.proofs.masks.equal.Goals as goal

pub loop-run-preserved : goal.loop-run-preserved
loop-run-preserved c =
    let run = c.loop-run.run - 1 in
    let value : ℤ = get_or c.args.values.now run (pos 0) in
    let one : ℤ = to_z w64 (of_z w64 c.args.one) in
    let says : ℕ → Bool = λ k. int_eq one (get_or c.args.values.now k (pos 0)) in
    let same : eqb (of_z w64 c.args.one) (of_z w64 value) ≡ int_eq one value = search rules in
    record {
      within = omega arith;
      seen = rw c.from.ensures (seen_before says c.loop-run.mask c.loop-run.run run (length c.args.values.now) (eqb (of_z w64 c.args.one) (of_z w64 value)) c.requires (omega arith) c.loop-run.invariant.seen same);
    }
