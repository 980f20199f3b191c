-- What a function answers that reads a whole text.
use Rattle.std.proofs.Common.{◌≡◌, ◌≢◌, ℕ, Bool, true, false, Option, Some, None, List, sym, ◌∙◌, subst}
use Rattle.std.specs.Prelude.{option_map}
use Rattle.std.specs.Cmp.Lexicographic.{pointwise}
use Rattle.std.proofs.lemmas.Bool.Decides.{Decides-eqb}
use Rattle.std.proofs.lemmas.Slice.Eq.{slice_eq-Decides}
use lib.Dec.{eqb}
use Rattle.sp_sched.specs.Reading.{Answers}

pub at_none : {Y A : Type 0} (P : A → Type 0) (view : Y → A) (o : Option Y) → o ≡ None → Answers P (option_map view o) → (a : A) → P a → ⊥
at_none P view o e h = subst (λ o. Answers P (option_map view o)) e h

pub at_some : {Y A : Type 0} (P : A → Type 0) (view : Y → A) (o : Option Y) (y : Y) → o ≡ Some y → Answers P (option_map view o) → P (view y)
at_some P view o y e h = subst (λ o. Answers P (option_map view o)) e h

pub none_answers : {A : Type 0} (P : A → Type 0) (o : Option A) → o ≡ None → Answers P o → (a : A) → P a → ⊥
none_answers P o e h = subst (λ o. Answers P o) e h

pub some_answers : {A : Type 0} (P : A → Type 0) (o : Option A) (a : A) → o ≡ Some a → Answers P o → P a
some_answers P o a e h = subst (λ o. Answers P o) e h

-- what a test for equal texts says where it fails
pub differs : (xs ys zs : List ℕ) (r : Bool) → r ≡ pointwise eqb xs ys → r ≡ false → ys ≡ zs → xs ≢ zs
differs xs ys zs r is unequal same e =
    let equal : r ≡ true = (slice_eq-Decides Decides-eqb xs ys r is).1 (e ∙ sym same) in
    cc
