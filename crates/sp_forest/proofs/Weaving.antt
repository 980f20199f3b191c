-- Items that are dealt in groups, and put in order again.
use Rattle.std.proofs.Common.{◌≡◌, ℕ, zero, suc, ◌<◌, ◌≤◌, List, [], ◌∷◌, ◌++◌, length, map, take, drop, refl, sym, ◌∙◌, ap, subst, arith, append_assoc, length-append, length-drop, take-append-drop}
use Rattle.std.specs.List.{All}
use Rattle.std.proofs.lemmas.List.{append-nil, length-map}
use Rattle.std.proofs.lemmas.List.Elements.{All-nil, All-cons, All-head, All-tail}
use Rattle.sp_forest.specs.Dealing.{AreDealt, dealt, heads, tails, woven}
use Rattle.sp_parts.proofs.Places.{all_back}

module _ {X : Type 0} where
  -- an item more, dealt to the next tree
  pub dealt_push : (ts : List (List X)) (t : List X) (xs : List X) → dealt (ts ++ t ∷ []) xs ≡ dealt ts xs ++ (t ++ take 1 (drop (length ts) xs)) ∷ []
  dealt_push [] t [] = ap (λ (l : List X). l ∷ []) (sym (append-nil t))
  dealt_push [] t (x ∷ xs) = refl
  dealt_push (s ∷ ts) t [] = ap (λ (l : List X). (s ∷ ts) ++ l ∷ []) (sym (append-nil t))
  dealt_push (s ∷ ts) t (x ∷ xs) = ap (λ l. (s ++ x ∷ []) ∷ l) (dealt_push ts t xs)

  -- where each tree has as many as another, the first of them stay
  heads_dealt : (g : ℕ) (ts : List (List X)) (xs : List X) → All (λ (t : List X). length t ≡ suc g) ts → heads (dealt ts xs) ≡ heads ts
  heads_dealt g [] xs even = refl
  heads_dealt g (t ∷ ts) [] even = refl
  heads_dealt g ([] ∷ ts) (x ∷ xs) even = let none = All-head (λ (t : List X). length t ≡ suc g) [] ts even in absurd (omega arith)
  heads_dealt g ((y ∷ t) ∷ ts) (x ∷ xs) even = ap (λ (l : List X). y ∷ l) (heads_dealt g ts xs (All-tail (λ (t : List X). length t ≡ suc g) (y ∷ t) ts even))

  tails_dealt : (g : ℕ) (ts : List (List X)) (xs : List X) → All (λ (t : List X). length t ≡ suc g) ts → tails (dealt ts xs) ≡ dealt (tails ts) xs
  tails_dealt g [] xs even = refl
  tails_dealt g (t ∷ ts) [] even = refl
  tails_dealt g ([] ∷ ts) (x ∷ xs) even = let none = All-head (λ (t : List X). length t ≡ suc g) [] ts even in absurd (omega arith)
  tails_dealt g ((y ∷ t) ∷ ts) (x ∷ xs) even = ap (λ (l : List (List X)). (t ++ x ∷ []) ∷ l) (tails_dealt g ts xs (All-tail (λ (t : List X). length t ≡ suc g) (y ∷ t) ts even))

  tails_even : (g : ℕ) (ts : List (List X)) → All (λ (t : List X). length t ≡ suc g) ts → All (λ (t : List X). length t ≡ g) (tails ts)
  tails_even g [] even = All-nil (λ (t : List X). length t ≡ g)
  tails_even g ([] ∷ ts) even = let none = All-head (λ (t : List X). length t ≡ suc g) [] ts even in absurd (omega arith)
  tails_even g ((y ∷ t) ∷ ts) even =
      let here = All-head (λ (t : List X). length t ≡ suc g) (y ∷ t) ts even in
      All-cons (λ (t : List X). length t ≡ g) t (tails ts) (omega arith) (tails_even g ts (All-tail (λ (t : List X). length t ≡ suc g) (y ∷ t) ts even))

  tails_short : (g : ℕ) (ts : List (List X)) → All (λ (t : List X). length t ≤ suc g) ts → All (λ (t : List X). length t ≤ g) (tails ts)
  tails_short g [] short = All-nil (λ (t : List X). length t ≤ g)
  tails_short g ([] ∷ ts) short = All-cons (λ (t : List X). length t ≤ g) [] (tails ts) (omega arith) (tails_short g ts (All-tail (λ (t : List X). length t ≤ suc g) [] ts short))
  tails_short g ((y ∷ t) ∷ ts) short =
      let here = All-head (λ (t : List X). length t ≤ suc g) (y ∷ t) ts short in
      All-cons (λ (t : List X). length t ≤ g) t (tails ts) (omega arith) (tails_short g ts (All-tail (λ (t : List X). length t ≤ suc g) (y ∷ t) ts short))

  -- to trees that have none
  heads_none : (ts : List (List X)) (xs : List X) → All (λ (t : List X). length t ≡ 0) ts → heads (dealt ts xs) ≡ take (length ts) xs
  heads_none [] xs none = refl
  heads_none ([] ∷ ts) [] none = rest ts (All-tail (λ (t : List X). length t ≡ 0) [] ts none)
    where
      rest : (ss : List (List X)) → All (λ (t : List X). length t ≡ 0) ss → heads ss ≡ []
      rest [] none = refl
      rest ([] ∷ ss) none = rest ss (All-tail (λ (t : List X). length t ≡ 0) [] ss none)
      rest ((y ∷ s) ∷ ss) none = let here = All-head (λ (t : List X). length t ≡ 0) (y ∷ s) ss none in absurd (omega arith)
  heads_none ([] ∷ ts) (x ∷ xs) none = ap (λ (l : List X). x ∷ l) (heads_none ts xs (All-tail (λ (t : List X). length t ≡ 0) [] ts none))
  heads_none ((y ∷ t) ∷ ts) xs none = let here = All-head (λ (t : List X). length t ≡ 0) (y ∷ t) ts none in absurd (omega arith)

  woven_dealt : (g : ℕ) (ts : List (List X)) (xs : List X) → All (λ (t : List X). length t ≡ g) ts → woven (suc g) (dealt ts xs) ≡ woven g ts ++ take (length ts) xs
  woven_dealt zero ts xs even = append-nil (heads (dealt ts xs)) ∙ heads_none ts xs even
  woven_dealt (suc g) ts xs even =
      ap (λ (l : List X). l ++ woven (suc g) (tails (dealt ts xs))) (heads_dealt g ts xs even)
      ∙ ap (λ (l : List (List X)). heads ts ++ woven (suc g) l) (tails_dealt g ts xs even)
      ∙ ap (λ (l : List X). heads ts ++ l) (woven_dealt g (tails ts) xs (tails_even g ts even))
      ∙ ap (λ (n : ℕ). heads ts ++ (woven g (tails ts) ++ take n xs)) (length-map ts (drop 1))
      ∙ sym (append_assoc (heads ts) (woven g (tails ts)) (take (length ts) xs))

  dealt_even : (g : ℕ) (ts : List (List X)) (xs : List X) → length ts ≤ length xs → All (λ (t : List X). length t ≡ g) ts → All (λ (t : List X). length t ≡ suc g) (dealt ts xs)
  dealt_even g [] xs enough even = All-nil (λ (t : List X). length t ≡ suc g)
  dealt_even g (t ∷ ts) [] enough even = absurd (omega arith)
  dealt_even g (t ∷ ts) (x ∷ xs) enough even =
      let here = All-head (λ (t : List X). length t ≡ g) t ts even in
      All-cons (λ (t : List X). length t ≡ suc g) (t ++ x ∷ []) (dealt ts xs) (omega (arith, length-append t (x ∷ [])))
      (dealt_even g ts xs (omega arith) (All-tail (λ (t : List X). length t ≡ g) t ts even))

  dealt_short : (g : ℕ) (ts : List (List X)) (xs : List X) → All (λ (t : List X). length t ≤ g) ts → All (λ (t : List X). length t ≤ suc g) (dealt ts xs)
  dealt_short g [] xs short = All-nil (λ (t : List X). length t ≤ suc g)
  dealt_short g (t ∷ ts) [] short = wider (t ∷ ts) short
    where
      wider : (ss : List (List X)) → All (λ (t : List X). length t ≤ g) ss → All (λ (t : List X). length t ≤ suc g) ss
      wider [] short = All-nil (λ (t : List X). length t ≤ suc g)
      wider (s ∷ ss) short =
          let here = All-head (λ (t : List X). length t ≤ g) s ss short in
          All-cons (λ (t : List X). length t ≤ suc g) s ss (omega arith) (wider ss (All-tail (λ (t : List X). length t ≤ g) s ss short))
  dealt_short g (t ∷ ts) (x ∷ xs) short =
      let here = All-head (λ (t : List X). length t ≤ g) t ts short in
      All-cons (λ (t : List X). length t ≤ suc g) (t ++ x ∷ []) (dealt ts xs) (omega (arith, length-append t (x ∷ [])))
      (dealt_short g ts xs (All-tail (λ (t : List X). length t ≤ g) t ts short))

  -- nothing is dealt yet
  pub dealt_none : (items : List X) (ts : List (List X)) → All (λ (t : List X). length t ≡ 0) ts → AreDealt items 0 ts items
  dealt_none items ts none = record { in_order = refl; short = small ts none; full = λ some. none }
    where
      small : (ss : List (List X)) → All (λ (t : List X). length t ≡ 0) ss → All (λ (t : List X). length t ≤ 0) ss
      small [] none = All-nil (λ (t : List X). length t ≤ 0)
      small (s ∷ ss) none =
          let here = All-head (λ (t : List X). length t ≡ 0) s ss none in
          All-cons (λ (t : List X). length t ≤ 0) s ss (omega arith) (small ss (All-tail (λ (t : List X). length t ≡ 0) s ss none))

  -- a group more is dealt
  pub dealt_more : (items : List X) (g m : ℕ) (ts : List (List X)) (left : List X) → m ≡ suc g → AreDealt items g ts left → 0 < length left → AreDealt items m (dealt ts left) (drop (length ts) left)
  dealt_more items g m ts left next so some = subst (λ (n : ℕ). AreDealt items n (dealt ts left) (drop (length ts) left)) (sym next) (record {
    in_order = so.in_order ∙ ap (λ (l : List X). woven g ts ++ l) (sym (take-append-drop (length ts) left))
        ∙ sym (append_assoc (woven g ts) (take (length ts) left) (drop (length ts) left))
        ∙ ap (λ (l : List X). l ++ drop (length ts) left) (sym (woven_dealt g ts left (so.full some)));
    short = dealt_short g ts left so.short;
    full = λ more. dealt_even g ts left (omega (arith, length-drop (length ts) left)) (so.full some);
  })

  -- so where the trees and what is left are said in other words
  pub dealt_on : (items : List X) (g m n : ℕ) (ts us : List (List X)) (left more : List X) → m ≡ suc g → AreDealt items g ts left → 0 < length left
      → us ≡ dealt ts left → n ≡ length ts → more ≡ drop n left → AreDealt items m us more
  dealt_on items g m n ts us left more next so some are many rest =
      subst (λ (l : List X). AreDealt items m us l) (sym (rest ∙ ap (λ (k : ℕ). drop k left) many))
      (subst (λ (l : List (List X)). AreDealt items m l (drop (length ts) left)) (sym are) (dealt_more items g m ts left next so some))

  -- the items of so many groups, and of one before them
  pub woven_more : (n m : ℕ) (ts : List (List X)) → n ≡ suc m → woven n ts ≡ heads ts ++ woven m (tails ts)
  woven_more n m ts is = ap (λ (k : ℕ). woven k ts) is

  -- what holds of all that was dealt holds of what each tree has
  pub all_unwoven : (P : X → Type 0) (g : ℕ) (ts : List (List X)) → All (λ (t : List X). length t ≤ g) ts → All P (woven g ts) → All (All P) ts
  all_unwoven P zero [] short all = All-nil (All P)
  all_unwoven P zero ([] ∷ ts) short all = All-cons (All P) [] ts (All-nil P) (all_unwoven P zero ts (All-tail (λ (t : List X). length t ≤ 0) [] ts short) all)
  all_unwoven P zero ((x ∷ t) ∷ ts) short all = let here = All-head (λ (t : List X). length t ≤ 0) (x ∷ t) ts short in absurd (omega arith)
  all_unwoven P (suc g) ts short all =
      joined ts (front (heads ts) (woven g (tails ts)) all) (all_unwoven P g (tails ts) (tails_short g ts short) (all_back P (heads ts) (woven g (tails ts)) all))
    where
      front : (xs ys : List X) → All P (xs ++ ys) → All P xs
      front [] ys all = All-nil P
      front (x ∷ xs) ys all = All-cons P x xs (All-head P x (xs ++ ys) all) (front xs ys (All-tail P x (xs ++ ys) all))

      joined : (ss : List (List X)) → All P (heads ss) → All (All P) (tails ss) → All (All P) ss
      joined [] first rest = All-nil (All P)
      joined ([] ∷ ss) first rest = All-cons (All P) [] ss (All-nil P) (joined ss first (All-tail (All P) [] (tails ss) rest))
      joined ((x ∷ s) ∷ ss) first rest =
          All-cons (All P) (x ∷ s) ss (All-cons P x s (All-head P x (heads ss) first) (All-head (All P) s (tails ss) rest))
          (joined ss (All-tail P x (heads ss) first) (All-tail (All P) s (tails ss) rest))

-- items that are changed one by one
heads_map : {X Y : Type 0} (f : X → Y) (ts : List (List X)) → heads (map (map f) ts) ≡ map f (heads ts)
heads_map f [] = refl
heads_map f ([] ∷ ts) = heads_map f ts
heads_map f ((x ∷ t) ∷ ts) = ap (λ l. f x ∷ l) (heads_map f ts)

tails_map : {X Y : Type 0} (f : X → Y) (ts : List (List X)) → tails (map (map f) ts) ≡ map (map f) (tails ts)
tails_map f [] = refl
tails_map f ([] ∷ ts) = ap (λ l. [] ∷ l) (tails_map f ts)
tails_map f ((x ∷ t) ∷ ts) = ap (λ l. map f t ∷ l) (tails_map f ts)

map_both : {X Y : Type 0} (f : X → Y) (xs ys : List X) → map f (xs ++ ys) ≡ map f xs ++ map f ys
map_both f [] ys = refl
map_both f (x ∷ xs) ys = ap (λ l. f x ∷ l) (map_both f xs ys)

pub woven_map : {X Y : Type 0} (f : X → Y) (g : ℕ) (ts : List (List X)) → woven g (map (map f) ts) ≡ map f (woven g ts)
woven_map f zero ts = refl
woven_map {X} {Y} f (suc g) ts =
    ap (λ (l : List Y). l ++ woven g (tails (map (map f) ts))) (heads_map f ts)
    ∙ ap (λ (l : List (List Y)). map f (heads ts) ++ woven g l) (tails_map f ts)
    ∙ ap (λ (l : List Y). map f (heads ts) ++ l) (woven_map f g (tails ts))
    ∙ sym (map_both f (heads ts) (woven g (tails ts)))

-- lists that are empty have no items
pub none_has : {X Y : Type 0} (f : X → List Y) (xs : List X) → All (λ x. f x ≡ []) xs → All (λ (l : List Y). length l ≡ 0) (map f xs)
none_has f [] none = All-nil (λ (l : List _). length l ≡ 0)
none_has f (x ∷ xs) none =
    All-cons (λ (l : List _). length l ≡ 0) (f x) (map f xs) (ap length (All-head (λ x. f x ≡ []) x xs none)) (none_has f xs (All-tail (λ x. f x ≡ []) x xs none))
