-- The first place at which a test passes.
use Rattle.std.proofs.Common.{◌≡◌, ℕ, ◌<◌, ◌≤◌, Bool, true, false, List, length, get_or, Some, None, arith}
use Rattle.std.specs.List.{position, position_or_len}
use Rattle.std.proofs.lemmas.Bool.Decides.{nat_tests}
use Rattle.std.proofs.lemmas.List.Sums.{position_or_len_is}

module _ {X : Type 0} (p : X → Bool) (xs : List X) (i : ℕ) (d : X) where
  -- where no item before it passes and it does
  pub place_here : i < length xs → ((k : ℕ) → k < i → p (get_or xs k d) ≡ false) → p (get_or xs i d) ≡ true → position p xs ≡ Some i
  place_here inside before here =
      let is : position_or_len p xs ≡ i = position_or_len_is p xs i d (omega arith) before (λ _. here) in
      rw is (grind (arith, nat_tests))

  -- where no item passes
  pub place_nowhere : length xs ≤ i → ((k : ℕ) → k < i → p (get_or xs k d) ≡ false) → position p xs ≡ None
  place_nowhere past before =
      let is : position_or_len p xs ≡ length xs = position_or_len_is p xs (length xs) d (omega arith) (λ k low. before k (omega arith)) (λ same. absurd (omega arith)) in
      rw is (grind (arith, nat_tests))
