-- Lists that are seen through a function.
use Rattle.std.proofs.Common.{◌≡◌, inl, inr, Bool, true, false, ◌||◌, List, [], ◌∷◌, map, Option, Some, refl, ap, ◌∙◌}
use Rattle.std.specs.Prelude.{filter, if◌then◌else◌}
use Rattle.std.specs.List.{list_any, last_or, fold}
use Rattle.std.specs.Option.{option_map}
use Rattle.std.proofs.lemmas.Bool.{cases_Bool}

-- one function after another
pub map_map : {X Y Z : Type 0} (f : X → Y) (g : Y → Z) (xs : List X) → map g (map f xs) ≡ map (λ x. g (f x)) xs
map_map f g [] = refl
map_map f g (x ∷ xs) = ap (λ l. g (f x) ∷ l) (map_map f g xs)

-- whether an item passes once it is changed
pub any_map : {X Y : Type 0} (f : X → Y) (p : Y → Bool) (xs : List X) → list_any p (map f xs) ≡ list_any (λ x. p (f x)) xs
any_map f p [] = refl
any_map f p (x ∷ xs) = ap (λ (b : Bool). p (f x) || b) (any_map f p xs)

-- the items that pass once they are changed
pub filter_map_is : {X Y : Type 0} (f : X → Y) (p : Y → Bool) (xs : List X) → filter p (map f xs) ≡ map f (filter (λ x. p (f x)) xs)
filter_map_is f p [] = refl
filter_map_is f p (x ∷ xs) = elim (cases_Bool (p (f x))) [ inl keeps ↦ rw keeps (ap (λ l. f x ∷ l) (filter_map_is f p xs)) | inr drops ↦ rw drops (filter_map_is f p xs) ]

-- the last item once all are changed
pub last_map : {X Y : Type 0} (f : X → Y) (o : Option X) (xs : List X) → last_or (option_map f o) (map f xs) ≡ option_map f (last_or o xs)
last_map f o [] = refl
last_map f o (x ∷ xs) = last_map f (Some x) xs

-- steps that keep a change lead from changed items to a changed result
pub fold_changed : {A B : Type 0} (f g : B → A → B) (h : B → B) (v : A → A) → ((b : B) (x : A) → f (h b) (v x) ≡ h (g b x)) → (b : B) (xs : List A) → fold f (h b) (map v xs) ≡ h (fold g b xs)
fold_changed f g h v step b [] = refl
fold_changed f g h v step b (x ∷ xs) = ap (λ z. fold f z (map v xs)) (step b x) ∙ fold_changed f g h v step (g b x) xs

-- a function of a choice
pub choice_of : {X Y : Type 0} (f : X → Y) (b : Bool) (x y : X) → (if b then f x else f y) ≡ f (if b then x else y)
choice_of f true x y = refl
choice_of f false x y = refl
