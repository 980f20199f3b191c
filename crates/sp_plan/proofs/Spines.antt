-- Chains of operators, gone along from their right end: what is summed, and by which factor what is left counts.
use Rattle.std.proofs.Common.{Box, Global, negsuc, ◌≡◌, ℕ, ℤ, ◌+◌, ◌*◌, ◌^◌, ◌≤◌, ◌+ℤ◌, ◌-ℤ◌, ◌*ℤ◌, pos, neg_ℤ, unsigned_abs, arith, refl, ap, sym, ◌∙◌, inl, inr, ◌⊎◌, zero, suc}
use Rattle.std.proofs.lemmas.Int.{unsigned_abs-mul}
use Rattle.std.proofs.Math.Nat.{mul-le-mul_left}
use Rattle.std.proofs.Math.IntN.{+ℤ_assoc, +ℤ_comm, *ℤ_comm, zero-*ℤ, *ℤ-zero}
use Rattle.sp_plan.proofs.Integers.{times_sum, times_times, times_minus_one}
use Rattle.sp_plan.specs.declared.event.Event.{Event}
use Rattle.sp_plan.specs.declared.plan.Expr.{Expr, Literal, Word, Column, Earlier, Raise', Minus', Add', Sub', Mul'}
use Rattle.sp_plan.specs.Values.{BoundEvents, value}
use Rattle.sp_plan.specs.Bounds.{greatest, bound, StaysWithin}

-- what stays in bounds is bounded
pub within_bounds : (x : Expr) → StaysWithin x → bound x ≤ greatest
within_bounds (Literal n) h = h
within_bounds (Word s) h = h
within_bounds (Column c) h = omega arith
within_bounds (Earlier name c) h = omega arith
within_bounds (Raise' by p inner) h = h.2
within_bounds (Minus' p inner) h = within_bounds inner h
within_bounds (Add' p left q right) h = h.2
within_bounds (Sub' p left q right) h = h.2
within_bounds (Mul' p left q right) h = h.2

-- The whole comes to the sum and the factor times the rest, and all of it stays within the bound of the whole.
pub record Spine (whole rest : Expr) (e : Event) (b : BoundEvents) (sum factor : ℤ) : Type 0 where
  pub within : StaysWithin rest
  pub comes : value whole e b ≡ sum +ℤ factor *ℤ value rest e b
  pub small : unsigned_abs sum + unsigned_abs factor * bound rest ≤ bound whole
  pub top : bound whole ≤ greatest

-- A factor, scaled: right where that stays in bounds.
abbrev pub ScaledBy : ℤ → ℤ → ℤ → Type 0
ScaledBy factor by result = unsigned_abs factor * unsigned_abs by ≤ greatest → result ≡ factor *ℤ by

pub start : (x : Expr) (e : Event) (b : BoundEvents) → StaysWithin x → Spine x x e b (pos 0) (pos 1)
start x e b h = record { within = h; comes = grind arith; small = omega arith; top = within_bounds x h }

-- a product is 0 only where one of its factors is
no_product : (m n : ℕ) → m * n ≡ 0 → (m ≡ 0) ⊎ (n ≡ 0)
no_product zero n h = inl refl
no_product (suc m) zero h = inr refl
no_product (suc m) (suc n) h = absurd (grind arith)

-- what is bounded by 0 is 0
pub no_value : (x : Expr) (e : Event) (b : BoundEvents) → bound x ≡ 0 → value x e b ≡ pos 0
no_value (Literal n) e b h = grind arith
no_value (Word s) e b h = ap pos h
no_value (Column c) e b h = absurd (omega arith)
no_value (Earlier name c) e b h = absurd (omega arith)
no_value (Raise' by p inner) e b h =
    elim (no_product (bound inner) (10 ^ by) h) [ inl none ↦ ap (λ x. x *ℤ pos (10 ^ by)) (no_value inner e b none) ∙ zero-*ℤ (pos (10 ^ by)) | inr none ↦ ap (λ x. value inner e b *ℤ pos x) none ∙ *ℤ-zero (value inner e b) ]
no_value (Minus' p inner) e b h = ap neg_ℤ (no_value inner e b h)
no_value (Add' p left q right) e b h =
    let one : bound left ≡ 0 = omega arith in
    let two : bound right ≡ 0 = omega arith in
    λ i. no_value left e b one i +ℤ no_value right e b two i
no_value (Sub' p left q right) e b h =
    let one : bound left ≡ 0 = omega arith in
    let two : bound right ≡ 0 = omega arith in
    λ i. no_value left e b one i -ℤ no_value right e b two i
no_value (Mul' p left q right) e b h =
    elim (no_product (bound left) (bound right) h) [ inl none ↦ ap (λ x. x *ℤ value right e b) (no_value left e b none) ∙ zero-*ℤ (value right e b) | inr none ↦ ap (λ x. value left e b *ℤ x) (no_value right e b none) ∙ *ℤ-zero (value left e b) ]

-- A right side is added: the rest is the left one.
pub sum_on : (whole rest left : Expr) (e : Event) (b : BoundEvents) (sum factor v sum' : ℤ) (m : ℕ) → Spine whole rest e b sum factor →
    StaysWithin left → value rest e b ≡ value left e b +ℤ v → unsigned_abs v ≤ m → bound rest ≡ bound left + m →
    sum' ≡ sum +ℤ factor *ℤ v → unsigned_abs sum' ≤ unsigned_abs sum + unsigned_abs factor * unsigned_abs v → Spine whole left e b sum' factor
sum_on whole rest left e b sum factor v sum' m h within is small parts new new_small = record {
  within = within;
  comes = h.comes ∙ ap (λ x. sum +ℤ factor *ℤ x) (is ∙ +ℤ_comm (value left e b) v) ∙ ap (λ x. sum +ℤ x) (times_sum factor v (value left e b)) ∙
      sym (+ℤ_assoc sum (factor *ℤ v) (factor *ℤ value left e b)) ∙ ap (λ x. x +ℤ factor *ℤ value left e b) (sym new);
  small =
      let one : unsigned_abs factor * bound rest ≡ unsigned_abs factor * bound left + unsigned_abs factor * m = rw parts (omega arith) in
      let two : unsigned_abs factor * unsigned_abs v ≤ unsigned_abs factor * m = mul-le-mul_left (unsigned_abs factor) small in
      let three : unsigned_abs sum + unsigned_abs factor * bound rest ≤ bound whole = h.small in
      omega arith;
  top = h.top;
}

none_or_more : (n : ℕ) → (n ≡ 0) ⊎ (1 ≤ n)
none_or_more zero = inl refl
none_or_more (suc n) = inr (omega arith)

-- A factor more: the rest is what it is the factor of. Where that is 0, any factor will do.
pub factor_on : (whole rest left : Expr) (e : Event) (b : BoundEvents) (sum factor by factor' : ℤ) (m : ℕ) → Spine whole rest e b sum factor →
    StaysWithin left → value rest e b ≡ value left e b *ℤ by → unsigned_abs by ≤ m → bound rest ≡ bound left * m →
    (unsigned_abs factor * unsigned_abs by ≤ greatest → factor' ≡ factor *ℤ by) → Spine whole left e b sum factor'
factor_on whole rest left e b sum factor by factor' m h within is small parts new =
    let so : value whole e b ≡ sum +ℤ (factor *ℤ by) *ℤ value left e b =
    h.comes ∙ ap (λ x. sum +ℤ x) (ap (λ x. factor *ℤ x) (is ∙ *ℤ_comm (value left e b) by) ∙ sym (times_times factor by (value left e b))) in
    elim (none_or_more (bound left)) [
      | inl none ↦ record {
        within = within;
        comes = so ∙ ap (λ x. sum +ℤ x) (ap (λ x. (factor *ℤ by) *ℤ x) (no_value left e b none) ∙ *ℤ-zero (factor *ℤ by) ∙ sym (ap (λ x. factor' *ℤ x) (no_value left e b none) ∙ *ℤ-zero factor'));
        small =
            let one : unsigned_abs factor' * bound left ≡ 0 = rw none (omega arith) in
            let two : unsigned_abs sum + unsigned_abs factor * bound rest ≤ bound whole = h.small in
            omega arith;
        top = h.top;
      }
      | inr some ↦
          let all : unsigned_abs sum + unsigned_abs factor * (bound left * m) ≤ bound whole = rw (sym parts) h.small in
          let top : bound whole ≤ greatest = h.top in
          let one : unsigned_abs factor * unsigned_abs by ≤ unsigned_abs factor * m = mul-le-mul_left (unsigned_abs factor) small in
          let same : unsigned_abs factor * (bound left * m) ≡ (unsigned_abs factor * m) * bound left = omega arith in
          let two : (unsigned_abs factor * m) * 1 ≤ (unsigned_abs factor * m) * bound left = mul-le-mul_left (unsigned_abs factor * m) some in
          let three : unsigned_abs factor * unsigned_abs by ≤ greatest = omega arith in
          let four : bound left * (unsigned_abs factor * unsigned_abs by) ≤ bound left * (unsigned_abs factor * m) = mul-le-mul_left (bound left) one in
          let five : unsigned_abs factor' ≡ unsigned_abs factor * unsigned_abs by = ap unsigned_abs (new three) ∙ unsigned_abs-mul factor by in
          let six : unsigned_abs factor' * bound left ≡ bound left * (unsigned_abs factor * unsigned_abs by) = rw five (omega arith) in
          record {
            within = within;
            comes = so ∙ ap (λ x. sum +ℤ x *ℤ value left e b) (sym (new three));
            small = omega arith;
            top = top;
          }
    ]

abbrev Own : Type 0
Own = Box (Unit {0}) Global

-- ---- one operator of a chain

pub on_add : (whole : Expr) (p : Own) (left : Expr) (q : Own) (right : Expr) (e : Event) (b : BoundEvents) (sum factor v sum' : ℤ) → Spine whole (Add' p left q right) e b sum factor →
    v ≡ value right e b → unsigned_abs v ≤ bound right → sum' ≡ sum +ℤ factor *ℤ v → unsigned_abs sum' ≤ unsigned_abs sum + unsigned_abs factor * unsigned_abs v → Spine whole left e b sum' factor
on_add whole p left q right e b sum factor v sum' h is small new new_small =
    sum_on whole (Add' p left q right) left e b sum factor v sum' (bound right) h h.within.0 (ap (λ x. value left e b +ℤ x) (sym is)) small refl new new_small

abs_turned : (a : ℤ) → unsigned_abs (neg_ℤ a) ≡ unsigned_abs a
abs_turned (pos zero) = refl
abs_turned (pos (suc n)) = refl
abs_turned (negsuc n) = refl

pub on_sub : (whole : Expr) (p : Own) (left : Expr) (q : Own) (right : Expr) (e : Event) (b : BoundEvents) (sum factor v sum' : ℤ) → Spine whole (Sub' p left q right) e b sum factor →
    v ≡ value right e b → unsigned_abs v ≤ bound right → sum' ≡ sum +ℤ factor *ℤ neg_ℤ v → unsigned_abs sum' ≤ unsigned_abs sum + unsigned_abs factor * unsigned_abs (neg_ℤ v) → Spine whole left e b sum' factor
on_sub whole p left q right e b sum factor v sum' h is small new new_small =
    sum_on whole (Sub' p left q right) left e b sum factor (neg_ℤ v) sum' (bound right) h h.within.0 (ap (λ x. value left e b +ℤ neg_ℤ x) (sym is)) (rw (abs_turned v) small) refl new new_small

pub on_mul : (whole : Expr) (p : Own) (left : Expr) (q : Own) (right : Expr) (e : Event) (b : BoundEvents) (sum factor v factor' : ℤ) → Spine whole (Mul' p left q right) e b sum factor →
    v ≡ value right e b → unsigned_abs v ≤ bound right → ScaledBy factor v factor' → Spine whole left e b sum factor'
on_mul whole p left q right e b sum factor v factor' h is small new =
    factor_on whole (Mul' p left q right) left e b sum factor v factor' (bound right) h h.within.0 (ap (λ x. value left e b *ℤ x) (sym is)) small refl new

pub on_raise : (whole : Expr) (by : ℕ) (p : Own) (inner : Expr) (e : Event) (b : BoundEvents) (sum factor v factor' : ℤ) → Spine whole (Raise' by p inner) e b sum factor →
    v ≡ pos (10 ^ by) → ScaledBy factor v factor' → Spine whole inner e b sum factor'
on_raise whole by p inner e b sum factor v factor' h is new =
    let abs : unsigned_abs v ≡ 10 ^ by = ap unsigned_abs is in
    factor_on whole (Raise' by p inner) inner e b sum factor v factor' (10 ^ by) h h.within.0 (ap (λ x. value inner e b *ℤ x) (sym is)) (omega arith) refl new

pub on_minus : (whole : Expr) (p : Own) (inner : Expr) (e : Event) (b : BoundEvents) (sum factor factor' : ℤ) → Spine whole (Minus' p inner) e b sum factor →
    (unsigned_abs factor ≤ greatest → factor' ≡ neg_ℤ factor) → Spine whole inner e b sum factor'
on_minus whole p inner e b sum factor factor' h new =
    factor_on whole (Minus' p inner) inner e b sum factor (negsuc 0) factor' 1 h h.within (sym (times_minus_one (value inner e b))) (omega arith) (omega arith)
    (λ some. new (omega arith) ∙ sym (times_minus_one factor))
