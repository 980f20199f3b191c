-- Powers of ten within limits.
use Rattle.std.proofs.Common.{ℕ, ◌^◌, ◌≤◌, ◌<◌, zero, arith}
use Rattle.std.proofs.Math.Nat.{pow-le-pow_right}
use Rattle.sp_plan.specs.Bounds.{greatest}

pub power_small : (n : ℕ) → n ≤ 36 → 10 ^ n ≤ greatest
power_small n h =
    let some : zero < 10 = omega arith in
    pow-le-pow_right some h
