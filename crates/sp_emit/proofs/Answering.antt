-- What a function answers that reads something from the front of a text.
use Rattle.std.proofs.Common.{◌≡◌, ◌≢◌, ℕ, Bool, true, false, Option, Some, None, List, refl, sym, ◌∙◌, subst}
use Rattle.std.specs.Option.{IsNone}
use Rattle.std.specs.Cmp.Lexicographic.{pointwise}
use Rattle.std.proofs.lemmas.Bool.Decides.{Decides-eqb}
use Rattle.std.proofs.lemmas.Slice.Eq.{slice_eq-Decides}
use lib.Dec.{eqb}
use Rattle.sp_emit.specs.Reading.{Answers}

-- what is read of one text is what is read of another
pub answers_map : {Y A : Type 0} (L M : A → List ℕ → Type 0) (view : Y → A × List ℕ) → ((a : A) (r : List ℕ) → L a r → M a r) → ((a : A) (r : List ℕ) → M a r → L a r)
    → (o : Option Y) → Answers L view o → Answers M view o
answers_map L M view to from None h = λ a r m. h a r (from a r m)
answers_map L M view to from (Some y) h = to (view y).0 (view y).1 h

pub none_answers : {Y A : Type 0} (L : A → List ℕ → Type 0) (view : Y → A × List ℕ) (o : Option Y) → o ≡ None → ((a : A) (r : List ℕ) → L a r → ⊥) → Answers L view o
none_answers L view o e none = subst (λ o. Answers L view o) (sym e) none

pub at_none : {Y A : Type 0} (L : A → List ℕ → Type 0) (view : Y → A × List ℕ) (o : Option Y) → o ≡ None → Answers L view o → (a : A) (r : List ℕ) → L a r → ⊥
at_none L view o e h = subst (λ o. Answers L view o) e h

pub at_some : {Y A : Type 0} (L : A → List ℕ → Type 0) (view : Y → A × List ℕ) (o : Option Y) (y : Y) → o ≡ Some y → Answers L view o → L (view y).0 (view y).1
at_some L view o y e h = subst (λ o. Answers L view o) e h

pub is_none : {Y : Type 0} (o : Option Y) → o ≡ None → IsNone o
is_none o e = subst (λ o. IsNone o) (sym e) refl

-- what a test for equal texts says where it fails
pub differs : (xs ys zs : List ℕ) (r : Bool) → r ≡ pointwise eqb xs ys → r ≡ false → ys ≡ zs → xs ≢ zs
differs xs ys zs r is unequal same e =
    let equal : r ≡ true = (slice_eq-Decides Decides-eqb xs ys r is).1 (e ∙ sym same) in
    cc
