-- Bytes cut at each mark.
use Rattle.std.proofs.Common.{◌≡◌, ◌≢◌, ◌==◌, ℕ, true, false, eqb, List, [], ◌∷◌, ◌++◌, arith}
use Rattle.std.specs.List.{All, slice_split}
use Rattle.std.proofs.lemmas.Bool.Decides.{nat_tests}
use Rattle.std.proofs.lemmas.List.Elements.{All-weaker}
use Rattle.std.proofs.lemmas.List.Splits.{slice_split_none, slice_split_at}

-- bytes that all differ from the mark fail its test
lacking : (mark : ℕ) (bytes : List ℕ) → All (λ b. b ≢ mark) bytes → All (λ b. eqb b mark ≡ false) bytes
lacking mark bytes all = All-weaker (λ b. b ≢ mark) (λ b. eqb b mark ≡ false) (λ b other. grind (arith, nat_tests)) bytes all

-- without the mark there is one part
pub one_part : (mark : ℕ) (bytes : List ℕ) → All (λ b. b ≢ mark) bytes → slice_split (λ b. b == mark) bytes ≡ bytes ∷ []
one_part mark bytes all = slice_split_none (λ b. b == mark) bytes (lacking mark bytes all)

-- the first part ends at the first mark
pub first_part : (mark : ℕ) (front back : List ℕ) → All (λ b. b ≢ mark) front → slice_split (λ b. b == mark) (front ++ mark ∷ back) ≡ front ∷ slice_split (λ b. b == mark) back
first_part mark front back all =
    let same : eqb mark mark ≡ true = grind (arith, nat_tests) in
    slice_split_at (λ b. b == mark) front mark back (lacking mark front all) same
