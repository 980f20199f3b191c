-- Lists that grow at their end.
use Rattle.std.proofs.Common.{◌≡◌, inl, inr, ℕ, zero, suc, ◌+◌, ◌<◌, ◌≤◌, Bool, true, false, List, [], ◌∷◌, ◌++◌, length, map, Option, Some, refl, sym, ap, ◌∙◌, subst, arith, length-append, append_assoc}
use Rattle.std.specs.Prelude.{filter, slice_get}
use Rattle.std.specs.List.{All, enumerate_from, last_or, range_with_len}
use Rattle.std.proofs.lemmas.Bool.{cases_Bool}
use Rattle.std.proofs.lemmas.List.{append-nil}
use Rattle.std.proofs.lemmas.List.Elements.{All-nil, All-cons, All-head, All-tail, All-weaker}

-- what holds of no items, and of items with one more behind them, holds of all lists
pub by_feeding : {X : Type 0} (P : List X → Type 0) → P [] → ((xs : List X) (x : X) → P xs → P (xs ++ x ∷ [])) → (xs : List X) → P xs
by_feeding {X} P none more xs = from [] none xs
  where
    from : (front : List X) → P front → (rest : List X) → P (front ++ rest)
    from front held [] = subst P (sym (append-nil front)) held
    from front held (x ∷ rest) = subst P (append_assoc front (x ∷ []) rest) (from (front ++ x ∷ []) (more front x held) rest)

-- the last item of a list with one more
pub last_or-push : {X : Type 0} (o : Option X) (xs : List X) (x : X) → last_or o (xs ++ x ∷ []) ≡ Some x
last_or-push o [] x = refl
last_or-push o (y ∷ xs) x = last_or-push (Some y) xs x

-- numbered items and one more
pub enumerate_push : {X : Type 0} (n : ℕ) (xs : List X) (x : X) → enumerate_from n (xs ++ x ∷ []) ≡ enumerate_from n xs ++ (n + length xs, x) ∷ []
enumerate_push n [] x = ap (λ (k : ℕ). (k, x) ∷ []) (omega arith)
enumerate_push n (y ∷ xs) x =
    let at : n + 1 + length xs ≡ n + suc (length xs) = omega arith in
    ap (λ l. (n, y) ∷ l) (enumerate_push (n + 1) xs x ∙ ap (λ (k : ℕ). enumerate_from (n + 1) xs ++ (k, x) ∷ []) at)

-- how many items with one more
pub length_push : {X : Type 0} (xs : List X) (x : X) → length (xs ++ x ∷ []) ≡ length xs + 1
length_push xs x = length-append xs (x ∷ [])

-- the item behind a list
pub get_push : {X : Type 0} (xs : List X) (x : X) → slice_get (xs ++ x ∷ []) (length xs) ≡ Some x
get_push [] x = refl
get_push (y ∷ xs) x = get_push xs x

-- the items of a list stay where they are when it grows
pub get_front : {X : Type 0} (xs ys : List X) (k : ℕ) → k < length xs → slice_get (xs ++ ys) k ≡ slice_get xs k
get_front [] ys k within = absurd (omega arith)
get_front (x ∷ xs) ys zero within = refl
get_front (x ∷ xs) ys (suc k) within = get_front xs ys k (omega arith)

-- the last item by its place
pub last_at : {X : Type 0} (x : X) (xs : List X) (o : Option X) → last_or o (x ∷ xs) ≡ slice_get (x ∷ xs) (length xs)
last_at x [] o = refl
last_at x (y ∷ xs) o = last_at y xs (Some x)

-- two tests that agree at each item of a list keep the same items
pub filter_same : {X : Type 0} (p q : X → Bool) (xs : List X) → All (λ x. p x ≡ q x) xs → filter p xs ≡ filter q xs
filter_same p q [] agree = refl
filter_same p q (x ∷ xs) agree =
    let here : p x ≡ q x = All-head (λ x. p x ≡ q x) x xs agree in
    let rest = filter_same p q xs (All-tail (λ x. p x ≡ q x) x xs agree) in
    elim (cases_Bool (q x)) [ inl keeps ↦ let also : p x ≡ true = here ∙ keeps in rw (also, keeps) (ap (λ l. x ∷ l) rest) | inr drops ↦ let also : p x ≡ false = here ∙ drops in rw (also, drops) rest ]

-- two functions that agree at each item of a list give the same
pub map_same : {X Y : Type 0} (f g : X → Y) (xs : List X) → All (λ x. f x ≡ g x) xs → map f xs ≡ map g xs
map_same f g [] agree = refl
map_same f g (x ∷ xs) agree = λ i. All-head (λ x. f x ≡ g x) x xs agree i ∷ map_same f g xs (All-tail (λ x. f x ≡ g x) x xs agree) i

-- where no item passes
pub filter_none : {X : Type 0} (p : X → Bool) (xs : List X) → All (λ x. p x ≡ false) xs → filter p xs ≡ []
filter_none p [] none = refl
filter_none p (x ∷ xs) none =
    let here : p x ≡ false = All-head (λ x. p x ≡ false) x xs none in
    rw here (filter_none p xs (All-tail (λ x. p x ≡ false) x xs none))

-- where each item passes
pub filter_all : {X : Type 0} (p : X → Bool) (xs : List X) → All (λ x. p x ≡ true) xs → filter p xs ≡ xs
filter_all p [] all = refl
filter_all p (x ∷ xs) all =
    let here : p x ≡ true = All-head (λ x. p x ≡ true) x xs all in
    rw here (ap (λ l. x ∷ l) (filter_all p xs (All-tail (λ x. p x ≡ true) x xs all)))

-- an item stands at each place within the list
pub get_there : {X : Type 0} (xs : List X) (k : ℕ) → k < length xs → (x : X) × (slice_get xs k ≡ Some x)
get_there [] k within = absurd (omega arith)
get_there (y ∷ xs) zero within = (y, refl)
get_there (y ∷ xs) (suc k) within = get_there xs k (omega arith)

-- an item of a list keeps what all keep
pub all_at : {X : Type 0} (P : X → Type 0) (xs : List X) (k : ℕ) (x : X) → All P xs → slice_get xs k ≡ Some x → P x
all_at P [] k x all is = cc
all_at P (y ∷ xs) zero x all is = let same : y ≡ x = cc in subst P same (All-head P y xs all)
all_at P (y ∷ xs) (suc k) x all is = all_at P xs k x (All-tail P y xs all) is

-- what holds of all items holds of the first ones
pub all_front : {X : Type 0} (P : X → Type 0) (xs ys : List X) → All P (xs ++ ys) → All P xs
all_front P [] ys all = All-nil P
all_front P (x ∷ xs) ys all = All-cons P x xs (All-head P x (xs ++ ys) all) (all_front P xs ys (All-tail P x (xs ++ ys) all))

-- how many items pass, when each is a given one seen otherwise
pub count_map : {X Y : Type 0} (f : X → Y) (p : Y → Bool) (xs : List X) → length (filter p (map f xs)) ≡ length (filter (λ x. p (f x)) xs)
count_map f p [] = refl
count_map f p (x ∷ xs) = elim (cases_Bool (p (f x))) [ inl keeps ↦ rw (keeps) (ap suc (count_map f p xs)) | inr drops ↦ rw (drops) (count_map f p xs) ]

-- two facts of all items
pub all_both : {X : Type 0} (P Q : X → Type 0) (xs : List X) → All P xs → All Q xs → All (λ x. P x × Q x) xs
all_both P Q [] p q = All-nil (λ x. P x × Q x)
all_both P Q (x ∷ xs) p q = All-cons (λ x. P x × Q x) x xs (All-head P x xs p, All-head Q x xs q) (all_both P Q xs (All-tail P x xs p) (All-tail Q x xs q))

-- the numbers of a range
pub range_within : (a n : ℕ) → All (λ k. (a ≤ k) × (k < a + n)) (range_with_len a n)
range_within a zero = All-nil (λ k. (a ≤ k) × (k < a + zero))
range_within a (suc n) =
    All-cons (λ k. (a ≤ k) × (k < a + suc n)) a (range_with_len (a + 1) n) (omega arith, omega arith)
    (All-weaker (λ k. (a + 1 ≤ k) × (k < a + 1 + n)) (λ k. (a ≤ k) × (k < a + suc n)) (λ k h. (omega (arith, h.0), omega (arith, h.1))) (range_with_len (a + 1) n) (range_within (a + 1) n))

-- no more items pass than there are
pub filter_fewer : {X : Type 0} (p : X → Bool) (xs : List X) → length (filter p xs) ≤ length xs
filter_fewer p [] = omega arith
filter_fewer p (x ∷ xs) = let rest = filter_fewer p xs in elim (cases_Bool (p x)) [ inl keeps ↦ rw keeps (omega arith) | inr drops ↦ rw drops (omega arith) ]
