use Rattle.std.proofs.Common.{◌≡◌, ℕ, ℤ, ◌-◌, Bool, pos, length, get_or, ap, arith, rules, w64, to_z, of_z}
use Rattle.std.proofs.lemmas.Int.{to_z-of_z}
use Rattle.std.specs.Prelude.{int_lt}
use Rattle.sp_plan.proofs.MaskBits.{seen_before}
use Rattle.sp_plan.proofs.masks.below.Goals as goal

pub loop-run-preserved : goal.loop-run-preserved
loop-run-preserved c =
    let run = c.loop-run.run - 1 in
    let value : ℤ = get_or c.args.values.now run (pos 0) in
    let says : ℕ → Bool = λ k. int_lt (get_or c.args.values.now k (pos 0)) (to_z w64 (of_z w64 c.args.than)) in
    let same : to_z w64 (of_z w64 value) ≡ value = search (rules, to_z-of_z) in
    record {
      within = omega arith;
      seen = rw c.from.ensures (seen_before says c.loop-run.mask c.loop-run.run run (length c.args.values.now) _ c.requires (omega arith) c.loop-run.invariant.seen (ap (λ (n : ℤ). int_lt n (to_z w64 (of_z w64 c.args.than))) same));
    }
