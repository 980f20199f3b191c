-- A cut of numbers that begins at 0.
use Rattle.std.proofs.Common.{◌≡◌, ℕ, ◌+◌, true, ◌&&◌, cond, nat_le, nat_lt, List, [], ◌∷◌, refl, arith}
use Rattle.std.specs.Prelude.{filter}
use Rattle.std.proofs.lemmas.Bool.Decides.{nat_tests}
use Rattle.sp_base.specs.Numbers.{is_within}

-- it has all that are below its end
pub cut_from_zero : (end : ℕ) (xs : List ℕ) → filter (is_within 0 end) xs ≡ filter (λ i. nat_lt i end) xs
cut_from_zero end [] = refl
cut_from_zero end (x ∷ xs) =
    let low : nat_le 0 x ≡ true = grind (arith, nat_tests) in
    let high : 0 + end ≡ end = omega arith in
    let tail = cut_from_zero end xs in
    λ i. cond (low i && nat_lt x (high i)) (x ∷ tail i) (tail i)
