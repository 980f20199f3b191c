-- What holds of each item of a list and the one at its place in another.
use Rattle.std.proofs.Common.{◌≡◌, ℕ, suc, ◌<◌, List, [], ◌∷◌, Ok, length, get_or, map, sym, subst, arith}
use Rattle.std.specs.Prelude.{Result, IfOk}
use Rattle.std.specs.List.{All, AllZip}
use Rattle.std.proofs.lemmas.List.Elements.{All-nil, All-cons}

-- it holds of all where it holds at each place
pub zip_by_place : {A B : Type 0} (P : A → B → Type 0) (xs : List A) (ys : List B) → length ys ≡ length xs
    → ((i : ℕ) (d : B) → i < length xs → (x : A) × ((e : A) → get_or xs i e ≡ x) × P x (get_or ys i d)) → AllZip P xs ys
zip_by_place P [] [] same each = tt
zip_by_place P [] (y ∷ ys) same each = absurd (omega arith)
zip_by_place P (x ∷ xs) [] same each = absurd (omega arith)
zip_by_place {A} P (x ∷ xs) (y ∷ ys) same each =
    let here = each 0 y (omega arith) in
    (subst (λ (z : A). P z y) (sym (here.1 x)) here.2, zip_by_place P xs ys (omega arith) (λ i d inside. each (suc i) d (omega arith)))

-- it holds of changed items where it holds of what they are changed to
pub zip_unmap : {A B C : Type 0} (P : A → C → Type 0) (f : B → C) (xs : List A) (ys : List B) → AllZip P xs (map f ys) → AllZip (λ x y. P x (f y)) xs ys
zip_unmap P f [] [] all = tt
zip_unmap P f [] (y ∷ ys) all = absurd all
zip_unmap P f (x ∷ xs) [] all = absurd all
zip_unmap P f (x ∷ xs) (y ∷ ys) all = (all.0, zip_unmap P f xs ys all.1)

-- what one list shows the other does
pub zip_maps : {A B C : Type 0} (P : A → B → Type 0) (f : A → C) (g : B → C) → ((x : A) (y : B) → P x y → g y ≡ f x) → (xs : List A) (ys : List B) → AllZip P xs ys → map g ys ≡ map f xs
zip_maps P f g same [] [] all = λ i. []
zip_maps P f g same [] (y ∷ ys) all = absurd all
zip_maps P f g same (x ∷ xs) [] all = absurd all
zip_maps P f g same (x ∷ xs) (y ∷ ys) all = λ i. same x y all.0 i ∷ zip_maps P f g same xs ys all.1 i

pub zip_all : {A B : Type 0} (P : A → B → Type 0) (Q : B → Type 0) → ((x : A) (y : B) → P x y → Q y) → (xs : List A) (ys : List B) → AllZip P xs ys → All Q ys
zip_all P Q holds [] [] all = All-nil Q
zip_all P Q holds [] (y ∷ ys) all = absurd all
zip_all P Q holds (x ∷ xs) [] all = absurd all
zip_all P Q holds (x ∷ xs) (y ∷ ys) all = All-cons Q y ys (holds x y all.0) (zip_all P Q holds xs ys all.1)

-- Jobs that all came back with a result.
module _ {A B E : Type 0} (xs : List A) (rs : List (Result B E)) (ys : List B) (same : length rs ≡ length xs) (are : rs ≡ map (λ y. Ok y) ys) where
  -- what each result shows its job does
  pub jobs_show : {C : Type 0} (f : A → C) (g : B → C) → ((i : ℕ) (d : Result B E) → i < length xs → (x : A) × ((e : A) → get_or xs i e ≡ x) × IfOk (get_or rs i d) (λ y. g y ≡ f x)) → map g ys ≡ map f xs
  jobs_show f g each =
      let by : A → Result B E → Type 0 = λ x r. IfOk r (λ y. g y ≡ f x) in
      let all = zip_by_place by xs rs same each in
      zip_maps (λ x y. g y ≡ f x) f g (λ x y so. so) xs ys (zip_unmap by (λ y. Ok y) xs ys (subst (AllZip by xs) are all))

  -- what holds of each result
  pub jobs_hold : (P : B → Type 0) → ((i : ℕ) (d : Result B E) → i < length xs → (x : A) × ((e : A) → get_or xs i e ≡ x) × IfOk (get_or rs i d) P) → All P ys
  jobs_hold P each =
      let by : A → Result B E → Type 0 = λ x r. IfOk r P in
      let all = zip_by_place by xs rs same each in
      zip_all (λ x y. P y) P (λ x y so. so) xs ys (zip_unmap by (λ y. Ok y) xs ys (subst (AllZip by xs) are all))
