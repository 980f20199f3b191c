-- Two numbers in one tell both.
use Rattle.std.proofs.Common.{◌≡◌, ℕ, zero, suc, ◌+◌, ◌*◌, refl, sym, ap, arith}
use Rattle.sp_split.specs.Lending.{both}

half : (x y : ℕ) → 2 * x ≡ 2 * y → x ≡ y
half x y is = omega (arith, is)

half_odd : (x y : ℕ) → 2 * x + 1 ≡ 2 * y + 1 → x ≡ y
half_odd x y is = omega (arith, is)

even_odd : (x y : ℕ) → 2 * x ≡ 2 * y + 1 → ⊥
even_odd x y is = omega (arith, is)

pub both_parts : (a b c d : ℕ) → both a b ≡ both c d → (a ≡ c) × (b ≡ d)
unfolding both
both_parts zero b zero d is = (refl, half b d is)
both_parts zero b (suc c) d is = absurd (even_odd b (both c d) is)
both_parts (suc a) b zero d is = absurd (even_odd d (both a b) (sym is))
both_parts (suc a) b (suc c) d is = let rest = both_parts a b c d (half_odd (both a b) (both c d) is) in (ap suc rest.0, rest.1)
