use Rattle.std.proofs.Common.{rules, to_z, of_z, ◌≡◌, ◌≤◌, ◌*◌, ◌^◌, ◌+◌, ◌-◌, arith, pos, ap, sym, ◌∙◌, ◌*ℤ◌, ℕ, ℤ, unsigned_abs, pow-add}
use Rattle.std.specs.Int.{w128}
use Rattle.std.proofs.lemmas.Int.{to_z-of_z}
use Rattle.sp_plan.specs.Bounds.{greatest}
use Rattle.sp_plan.proofs.Products.{power_small}
use Rattle.sp_plan.proofs.eval.power_of_ten.Goals as goal

-- a power from 18 on is that of 18 times the rest
parted : (by : ℕ) → 19 ≤ by → 10 ^ by ≡ 10 ^ 18 * 10 ^ (by - 18)
parted by h =
    let whole : by ≡ 18 + (by - 18) = omega arith in
    ap (λ (n : ℕ). 10 ^ n) whole ∙ pow-add 10 18 (by - 18)

multiplied : (by : ℕ) (x y z : ℤ) → 19 ≤ by → by ≤ 36 → x ≡ pos (10 ^ 18) → y ≡ pos (10 ^ (by - 18)) → (unsigned_abs x * unsigned_abs y ≤ greatest → z ≡ x *ℤ y) → z ≡ pos (10 ^ by)
multiplied by x y z some most front rest is =
    let small : 10 ^ by ≤ greatest = power_small by most in
    let all : unsigned_abs x * unsigned_abs y ≡ 10 ^ by = (λ i. unsigned_abs (front i) * unsigned_abs (rest i)) ∙ sym (parted by some) in
    is (omega arith) ∙ (λ i. front i *ℤ rest i) ∙ ap pos (sym (parted by some))

pub returns-else-by-lt19 : goal.returns-else-by-lt19
returns-else-by-lt19 c =
    let x : ℤ = to_z w128 (of_z w128 c.from-else-by-lt19.result) in
    let y : ℤ = to_z w128 (of_z w128 c.from-else-by-lt19-2.result) in
    let front : x ≡ pos (10 ^ 18) = search rules in
    let rest : y ≡ pos (10 ^ (c.args.by - 18)) = search rules in
    to_z-of_z w128 c.scaled.result (search rules) ∙ multiplied c.args.by x y c.scaled.result (omega arith) c.requires front rest c.scaled.ensures
