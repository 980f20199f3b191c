-- Products and powers within bounds.
use Rattle.std.proofs.Common.{◌≡◌, ℕ, ◌*◌, ◌^◌, ◌≤◌, ◌<◌, zero, arith, [], ◌∷◌, eqb, filter, Option, Some, None, refl, subst}
use Rattle.std.specs.Option.{option_map}
use Rattle.std.proofs.Math.Nat.{mul-le-mul_left, pow-le-pow_right}
use Rattle.std.specs.List.{last_or}
use Rattle.std.proofs.lemmas.List.Elements.{All-filter, All-head, All-tail}
use Rattle.sp_plan.specs.declared.event.Event.{Event}
use Rattle.sp_plan.specs.Bounds.{greatest, IsSmall, AllSmall}
use Rattle.sp_plan.specs.Values.{BoundEvents, last_bound}

pub product_small : (a b m n : ℕ) → a ≤ m → b ≤ n → a * b ≤ m * n
product_small a b m n h i =
    let one : a * b ≤ a * n = mul-le-mul_left a i in
    let two : n * a ≤ n * m = mul-le-mul_left n h in
    omega arith

pub power_small : (n : ℕ) → n ≤ 36 → 10 ^ n ≤ greatest
power_small n h =
    let some : zero < 10 = omega arith in
    pow-le-pow_right some h

-- ---- the last bound event

last_small : (o : Option (ℕ × Event)) (pairs : BoundEvents) (e : Event) → AllSmall pairs → ((pair : ℕ × Event) → o ≡ Some pair → IsSmall pair.1) → option_map (λ (pair : ℕ × Event). pair.1) (last_or o pairs) ≡ Some e → IsSmall e
last_small None [] e all first h = absurd cc
last_small (Some pair) [] e all first h =
    let same : pair.1 ≡ e = cc in
    subst IsSmall same (first pair refl)
last_small o (pair ∷ pairs) e all first h =
    last_small (Some pair) pairs e (All-tail (λ (p : ℕ × Event). IsSmall p.1) pair pairs all)
    (λ (other : ℕ × Event) same.
    let one : pair ≡ other = cc in
    subst (λ (p : ℕ × Event). IsSmall p.1) one (All-head (λ (p : ℕ × Event). IsSmall p.1) pair pairs all)) h

pub found_small : (b : BoundEvents) (name : ℕ) (e : Event) → AllSmall b → option_map (λ (pair : ℕ × Event). pair.1) (last_bound name b) ≡ Some e → IsSmall e
found_small b name e all h =
    last_small None (filter (λ (pair : ℕ × Event). eqb pair.0 name) b) e (All-filter (λ (pair : ℕ × Event). eqb pair.0 name) (λ (pair : ℕ × Event). IsSmall pair.1) b all) (λ (pair : ℕ × Event) same. absurd cc) h
