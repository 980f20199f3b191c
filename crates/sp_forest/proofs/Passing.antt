-- Lists whose items are changed one after another, and lists that are made so of others.
use Rattle.std.proofs.Common.{◌≡◌, ℕ, ◌+◌, ◌<◌, ◌≤◌, List, [], ◌∷◌, ◌++◌, length, get_or, map, take, drop, set, refl, sym, ◌∙◌, ap, subst, arith, append_assoc, length-take}
use Rattle.std.proofs.Math.ListN.{length-set}
use Rattle.std.proofs.lemmas.Grind.{flat_map-append}
use Rattle.std.proofs.lemmas.List.{append-nil, drop-drop, drop-set-lt, drop_more, length-map, map-append, take_all, take_more, take_more_set}
use Rattle.std.specs.List.{All}
use Rattle.std.proofs.lemmas.List.Elements.{All-map}
use Rattle.sp_parts.proofs.Places.{all_unmap}
use Rattle.sp_forest.specs.Dealing.{dealt, heads, tails}
use Rattle.sp_forest.proofs.Weaving.{dealt_push}

-- Of the items of a list the first so many may have changed.
pub record Passed {X : Type 0} (i : ℕ) (old new : List X) : Type 0 where
  pub size : length new ≡ length old
  pub rest : drop i new ≡ drop i old

module _ {X : Type 0} (i : ℕ) (old new : List X) (passed : Passed i old new) (inside : i < length new) (d : X) where
  abbrev x : X
  x = get_or new i d

  same_item : x ≡ get_or old i d
  same_item =
      let size = passed.size in
      let within : i < length old = omega arith in
      let here = drop_more new i d inside in
      let there = drop_more old i d within in
      let rest = passed.rest in
      cc

  pub passed_more : (y : X) → Passed (i + 1) old (set new i y)
  passed_more y = record {
    size = length-set new i y ∙ passed.size;
    rest = drop-set-lt (i + 1) new i y (omega arith) ∙ sym (drop-drop 1 i new) ∙ ap (drop 1) passed.rest ∙ drop-drop 1 i old;
  }

  module _ {Y : Type 0} (f : X → Y) where
    was_more : map f (take (i + 1) old) ≡ map f (take i old) ++ f x ∷ []
    was_more =
        let size = passed.size in
        let within : i < length old = omega arith in
        ap (map f) (take_more old i d within ∙ ap (λ (y : X). take i old ++ y ∷ []) (sym same_item)) ∙ map-append f (take i old) (x ∷ [])

    now_more : (y : X) → map f (take (i + 1) (set new i y)) ≡ map f (take i new) ++ f y ∷ []
    now_more y = ap (map f) (take_more_set new i y inside) ∙ map-append f (take i new) (y ∷ [])

    -- what is the same of an item stays the same of all
    pub same_more : (y : X) → f y ≡ f x → map f (take i new) ≡ map f (take i old) → map f (take (i + 1) (set new i y)) ≡ map f (take (i + 1) old)
    same_more y same so = now_more y ∙ ap (λ (l : List Y). l ++ f y ∷ []) so ∙ ap (λ (z : Y). map f (take i old) ++ z ∷ []) same ∙ sym was_more

  module _ {Z : Type 0} (f : X → List Z) where
    -- an item was dealt
    pub dealt_step : (items : List Z) (y : X) → f y ≡ f x ++ take 1 (drop i items) → map f (take i new) ≡ dealt (map f (take i old)) items
        → map f (take (i + 1) (set new i y)) ≡ dealt (map f (take (i + 1) old)) items
    dealt_step items y so before =
        let size = passed.size in
        let many : length (map f (take i old)) ≡ i = length-map (take i old) f ∙ omega (arith, length-take i old) in
        now_more f y ∙ ap (λ (l : List (List Z)). l ++ f y ∷ []) before
        ∙ ap (λ (l : List Z). dealt (map f (take i old)) items ++ l ∷ []) (so ∙ ap (λ (n : ℕ). f x ++ take 1 (drop n items)) (sym many))
        ∙ sym (dealt_push (map f (take i old)) (f x) items) ∙ ap (λ (l : List (List Z)). dealt l items) (sym (was_more f))

    -- the first one was taken out
    pub heads_step : (all more : List Z) → all ≡ more ++ heads (map f (take i old)) → all ++ take 1 (f x) ≡ more ++ heads (map f (take (i + 1) old))
    heads_step all more so =
        ap (λ (l : List Z). l ++ take 1 (f x)) so ∙ append_assoc more (heads (map f (take i old))) (take 1 (f x))
        ∙ ap (λ (l : List Z). more ++ (heads (map f (take i old)) ++ l)) (sym (append-nil (take 1 (f x))))
        ∙ ap (λ (l : List Z). more ++ l) (sym (flat_map-append (take 1) (map f (take i old)) (f x ∷ [])))
        ∙ ap (λ (l : List (List Z)). more ++ heads l) (sym (was_more f))

    pub tails_step : (y : X) → f y ≡ drop 1 (f x) → map f (take i new) ≡ tails (map f (take i old)) → map f (take (i + 1) (set new i y)) ≡ tails (map f (take (i + 1) old))
    tails_step y so before =
        now_more f y ∙ ap (λ (l : List (List Z)). l ++ f y ∷ []) before ∙ ap (λ (l : List Z). tails (map f (take i old)) ++ l ∷ []) so
        ∙ sym (map-append (drop 1) (map f (take i old)) (f x ∷ [])) ∙ ap tails (sym (was_more f))

-- all items were passed
pub all_passed : {X Y : Type 0} (f : X → Y) (i : ℕ) (xs : List X) → length xs ≤ i → map f (take i xs) ≡ map f xs
all_passed f i xs all = ap (map f) (take_all i xs all)

-- ---- lists that are made of others, item by item

-- an item more was made, of the first of those that are wanted still
pub made_next : {X Z : Type 0} (f : X → Z) (xs : List X) (x : X) (z : Z) (zs all : List Z) → f x ≡ z → map f xs ++ z ∷ zs ≡ all → map f (xs ++ x ∷ []) ++ zs ≡ all
made_next f xs x z zs all same so =
    ap (λ l. l ++ zs) (map-append f xs (x ∷ [])) ∙ append_assoc (map f xs) (f x ∷ []) zs ∙ ap (λ y. map f xs ++ y ∷ zs) same ∙ so

pub made_more : {X Y Z : Type 0} (f : X → Z) (g : Y → Z) (xs : List X) (x : X) (rest : List Y) (y : Y) (all : List Z)
    → f x ≡ g y → map f xs ++ map g (y ∷ rest) ≡ all → map f (xs ++ x ∷ []) ++ map g rest ≡ all
made_more f g xs x rest y all same so = made_next f xs x (g y) (map g rest) all same so

-- so where of the wanted ones as many are taken as others are left
pub made_taken : {X Y Z : Type 0} (f : X → Z) (xs : List X) (x : X) (others others' : List Y) (y : Y) (zs zs' all : List Z)
    → others ≡ y ∷ others' → zs ≡ f x ∷ zs' → map f xs ++ take (length others) zs ≡ all → map f (xs ++ x ∷ []) ++ take (length others') zs' ≡ all
made_taken f xs x others others' y zs zs' all rest next so =
    made_next f xs x (f x) (take (length others') zs') all refl
    (ap (λ l. map f xs ++ take (length l) (f x ∷ zs')) (sym rest) ∙ ap (λ l. map f xs ++ take (length others) l) (sym next) ∙ so)

-- what holds of a property of all items holds of others that have the same ones
pub all_alike : {X Y Z : Type 0} (P : Z → Type 0) (f : X → Z) (g : Y → Z) (xs : List X) (ys : List Y) → map g ys ≡ map f xs → All (λ x. P (f x)) xs → All (λ y. P (g y)) ys
all_alike P f g xs ys same held = all_unmap P g ys (subst (All P) (sym same) (All-map P f xs held))

pub made_all : {X Y Z : Type 0} (f : X → Z) (g : Y → Z) (xs : List X) (rest : List Y) (all : List Z) → length rest ≡ 0 → map f xs ++ map g rest ≡ all → map f xs ≡ all
made_all f g xs [] all none so = sym (append-nil (map f xs)) ∙ so
made_all f g xs (y ∷ rest) all none so = absurd (omega arith)
