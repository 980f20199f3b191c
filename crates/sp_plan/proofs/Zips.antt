-- Lists whose elements are so related, place by place.
use Rattle.std.proofs.Common.{◌≡◌, ◌≢◌, IsTrue, ℕ, ◌+◌, ◌<◌, ◌≤◌, arith, Bool, true, false, List, [], ◌∷◌, ◌++◌, length, get_or, take, map, refl, sym, subst}
use Rattle.std.specs.List.{AllZip}
use Rattle.std.proofs.lemmas.List.{take_more, take_all}
use Rattle.std.proofs.lemmas.List.Elements.{AllZip-push, AllZip-get_or, length_all_zip}

-- the test says exactly whether it is so
abbrev pub Told : Bool → Type 0 → Type 0
Told b P = (IsTrue b → P) × (P → IsTrue b)

false_told : (P : Type 0) → (P → ⊥) → Told false P
false_told P none = (λ h. absurd cc, λ p. absurd (none p))

module _ {A : Type 0} (R : A → A → Type 0) (xs ys : List A) where
  pub zip_more : (i : ℕ) (x y : A) → length xs ≡ length ys → i < length xs → x ≡ get_or xs i x → y ≡ get_or ys i y → AllZip R (take i xs) (take i ys) → R x y → AllZip R (take (i + 1) xs) (take (i + 1) ys)
  zip_more i x y sizes inside one other before here =
      let within : i < length ys = subst (λ n. i < n) sizes inside in
      let r : R (get_or xs i x) (get_or ys i y) = subst (λ z. R z (get_or ys i y)) one (subst (λ z. R x z) other here) in
      subst (λ l. AllZip R l (take (i + 1) ys)) (sym (take_more xs i x inside)) (subst (λ l. AllZip R (take i xs ++ get_or xs i x ∷ []) l) (sym (take_more ys i y within)) (AllZip-push R (take i xs) (take i ys) (get_or xs i x) (get_or ys i y) before r))

  pub sizes_differ : length xs ≢ length ys → Told false (AllZip R xs ys)
  sizes_differ differ = false_told (AllZip R xs ys) (λ p. differ (length_all_zip R xs ys p))

  pub items_differ : (i : ℕ) (x y : A) → i < length xs → x ≡ get_or xs i x → y ≡ get_or ys i y → (R x y → ⊥) → Told false (AllZip R xs ys)
  items_differ i x y inside one other none =
      false_told (AllZip R xs ys) (λ p. none (subst (λ z. R z y) (sym one) (subst (λ z. R (get_or xs i x) z) (sym other) (AllZip-get_or R xs ys i x y p inside))))

  pub all_alike : (i : ℕ) → length xs ≡ length ys → i ≡ length xs → AllZip R (take i xs) (take i ys) → Told true (AllZip R xs ys)
  all_alike i sizes end p =
      let first : length xs ≤ i = omega arith in
      let second : length ys ≤ i = omega arith in
      (λ h. subst (λ l. AllZip R l ys) (take_all i xs first) (subst (λ l. AllZip R (take i xs) l) (take_all i ys second) p), λ q. refl)

-- ---- related by what a function gives of them

module _ {A B : Type 0} (f : A → B) where
  maps_of_zip : (xs ys : List A) → AllZip (λ x y. f x ≡ f y) xs ys → map f xs ≡ map f ys
  maps_of_zip [] [] p = refl
  maps_of_zip [] (y ∷ ys) p = absurd p
  maps_of_zip (x ∷ xs) [] p = absurd p
  maps_of_zip (x ∷ xs) (y ∷ ys) p = λ i. p.0 i ∷ maps_of_zip xs ys p.1 i

  zip_of_maps : (xs ys : List A) → map f xs ≡ map f ys → AllZip (λ x y. f x ≡ f y) xs ys
  zip_of_maps [] [] e = tt
  zip_of_maps [] (y ∷ ys) e = absurd cc
  zip_of_maps (x ∷ xs) [] e = absurd cc
  zip_of_maps (x ∷ xs) (y ∷ ys) e =
      let rest : map f xs ≡ map f ys = cc in
      (cc, zip_of_maps xs ys rest)

  pub maps_told : (b : Bool) (xs ys : List A) → Told b (AllZip (λ x y. f x ≡ f y) xs ys) → Told b (map f xs ≡ map f ys)
  maps_told b xs ys told = (λ h. maps_of_zip xs ys (told.0 h), λ e. told.1 (zip_of_maps xs ys e))
