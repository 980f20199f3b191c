-- Values kept as numbers, and of each whether it is a text's.
use Rattle.std.proofs.Common.{◌≡◌, ℕ, zero, suc, ◌+◌, ◌<◌, ◌≤◌, min, arith, Bool, true, false, Some, None, List, [], ◌∷◌, ◌++◌, length, get_or, take, set, map, refl, sym, ◌∙◌, ap, subst}
use Rattle.std.specs.Prelude.{ℤ, pos, unsigned_abs, slice_get}
use Rattle.std.specs.List.{All, zip}
use Rattle.std.proofs.lemmas.List.{take_more_set, get_or-map, map-append, length-map, length-set, length-take-le, get_or-take}
use Rattle.std.proofs.lemmas.List.Elements.{All-head, All-tail, All-set, All-get_or, All-take}
use Rattle.std.proofs.lemmas.Slice.Zip.{get_or-zip, length-zip, firsts-zip, seconds-zip}
use Rattle.std.proofs.lemmas.Option.{slice_get-get_or, slice_get_past, slice_get_within, get_or_from_slice_get}
use Rattle.sp_base.specs.Limits.{number_limit}
use Rattle.sp_plan.specs.declared.event.Value.{Value}
use Rattle.sp_plan.specs.declared.event.Value.TheVariants.{Number, Symbol}
use Rattle.sp_plan.specs.declared.event.Kept.{Kept}
use Rattle.sp_plan.specs.declared.event.Kept.TheVariants.{Few}
use Rattle.sp_plan.specs.Kept.{parts_of, whole_of, IsPart, listed, Counted, with_value}
use Rattle.sp_plan.specs.Bounds.{SmallValue}
use Rattle.sp_plan.specs.Values.{units}

-- ---- one value

whole_parts : (v : Value) → whole_of (parts_of v) ≡ v
whole_parts (Number n) = refl
whole_parts (Symbol s) = refl

parts_whole : (p : Bool × ℤ) → IsPart p → parts_of (whole_of p) ≡ p
parts_whole (true, n) h = λ i. (true, sym h.0 i)
parts_whole (false, n) h = refl

number_is : (p : Bool × ℤ) → IsPart p → p.1 ≡ units (Some (whole_of p))
number_is (true, n) h = h.0
number_is (false, n) h = refl

small_part : (p : Bool × ℤ) → IsPart p → SmallValue (whole_of p) → unsigned_abs p.1 ≤ number_limit
small_part (true, n) h small = omega (arith, h.1)
small_part (false, n) h small = small

pub small_parts : (v : Value) → IsPart (parts_of v) → SmallValue v → unsigned_abs (parts_of v).1 ≤ number_limit
small_parts v h small = small_part (parts_of v) h (subst SmallValue (sym (whole_parts v)) small)

pub small_got : (values : List Value) (place : ℕ) (v : Value) → All SmallValue values → slice_get values place ≡ Some v → SmallValue v
small_got values place v all h =
    subst SmallValue (get_or_from_slice_get values place v v h) (All-get_or SmallValue values place v (slice_get_within values place v h) all)

-- Values are the same only where their parts are.
wholes_alike : (ps qs : List (Bool × ℤ)) → All IsPart ps → All IsPart qs → map whole_of ps ≡ map whole_of qs → ps ≡ qs
wholes_alike [] [] a b e = refl
wholes_alike [] (q ∷ qs) a b e = absurd cc
wholes_alike (p ∷ ps) [] a b e = absurd cc
wholes_alike (p ∷ ps) (q ∷ qs) a b e =
    let first : whole_of p ≡ whole_of q = cc in
    let rest : map whole_of ps ≡ map whole_of qs = cc in
    let one : p ≡ q = sym (parts_whole p (All-head IsPart p ps a)) ∙ ap parts_of first ∙ parts_whole q (All-head IsPart q qs b) in
    let others = wholes_alike ps qs (All-tail IsPart p ps a) (All-tail IsPart q qs b) rest in
    λ i. one i ∷ others i

module _ {A B : Type 0} where
  zip_set : (xs : List A) (ys : List B) (i : ℕ) (a : A) (b : B) → zip (set xs i a) (set ys i b) ≡ set (zip xs ys) i (a, b)
  zip_set [] ys i a b = refl
  zip_set (x ∷ xs) [] zero a b = refl
  zip_set (x ∷ xs) [] (suc i) a b = refl
  zip_set (x ∷ xs) (y ∷ ys) zero a b = refl
  zip_set (x ∷ xs) (y ∷ ys) (suc i) a b = ap (λ l. (x, y) ∷ l) (zip_set xs ys i a b)

  take_zip : (n : ℕ) (xs : List A) (ys : List B) → take n (zip xs ys) ≡ zip (take n xs) (take n ys)
  take_zip zero xs ys = refl
  take_zip (suc n) [] ys = refl
  take_zip (suc n) (x ∷ xs) [] = refl
  take_zip (suc n) (x ∷ xs) (y ∷ ys) = ap (λ l. (x, y) ∷ l) (take_zip n xs ys)

module _ {A : Type 0} where
  more : (i : ℕ) (xs ys : List A) → take i xs ≡ take i ys → slice_get xs i ≡ slice_get ys i → take (suc i) xs ≡ take (suc i) ys
  more i [] [] e h = refl
  more zero [] (y ∷ ys) e h = absurd cc
  more (suc i) [] (y ∷ ys) e h = absurd cc
  more zero (x ∷ xs) [] e h = absurd cc
  more (suc i) (x ∷ xs) [] e h = absurd cc
  more zero (x ∷ xs) (y ∷ ys) e h =
      let one : x ≡ y = cc in
      λ j. one j ∷ []
  more (suc i) (x ∷ xs) (y ∷ ys) e h =
      let one : x ≡ y = cc in
      let rest : take i xs ≡ take i ys = cc in
      let others = more i xs ys rest h in
      λ j. one j ∷ others j

  -- Lists that are alike before a place and in it are alike behind it.
  pub one_more : (i : ℕ) (xs ys : List A) → take i xs ≡ take i ys → slice_get xs i ≡ slice_get ys i → take (i + 1) xs ≡ take (i + 1) ys
  one_more i xs ys e h =
      let next : suc i ≡ i + 1 = omega arith in
      subst (λ (n : ℕ). take n xs ≡ take n ys) next (more i xs ys e h)

  got : (i : ℕ) (xs : List A) (x : A) → slice_get xs i ≡ Some x → take (suc i) xs ≡ take i xs ++ x ∷ []
  got i [] x h = absurd cc
  got zero (y ∷ ys) x h =
      let one : y ≡ x = cc in
      λ j. one j ∷ []
  got (suc i) (y ∷ ys) x h = ap (λ (l : List A). y ∷ l) (got i ys x h)

  pub got_more : (i : ℕ) (xs : List A) (x : A) → slice_get xs i ≡ Some x → take (i + 1) xs ≡ take i xs ++ x ∷ []
  got_more i xs x h =
      let next : suc i ≡ i + 1 = omega arith in
      subst (λ (n : ℕ). take n xs ≡ take i xs ++ x ∷ []) next (got i xs x h)

  none_got : (i : ℕ) (xs : List A) → slice_get xs i ≡ None → take (suc i) xs ≡ take i xs
  none_got zero [] h = refl
  none_got (suc i) [] h = refl
  none_got zero (y ∷ ys) h = absurd cc
  none_got (suc i) (y ∷ ys) h = ap (λ (l : List A). y ∷ l) (none_got i ys h)

  pub got_none : (i : ℕ) (xs : List A) → slice_get xs i ≡ None → take (i + 1) xs ≡ take i xs
  got_none i xs h =
      let next : suc i ≡ i + 1 = omega arith in
      subst (λ (n : ℕ). take n xs ≡ take i xs) next (none_got i xs h)

-- ---- the places of an event

module _ (count : ℕ) (texts : List Bool) (numbers : List ℤ) (counted : Counted (Few count texts numbers)) where
  size : length (zip texts numbers) ≡ 4
  size = length-zip texts numbers ∙ ap (λ n. min n (length numbers)) counted.0 ∙ ap (min 4) counted.1

  first_size : length (take count (zip texts numbers)) ≡ count
  first_size = length-take-le count (zip texts numbers) (omega (arith, size, counted.2))

  pub few_size : length (listed (Few count texts numbers)) ≡ count
  few_size = length-map (take count (zip texts numbers)) whole_of ∙ first_size

  stands : (place : ℕ) → place < count → get_or (zip texts numbers) place (false, pos 0) ≡ (get_or texts place false, get_or numbers place (pos 0))
  stands place h =
      get_or-zip texts numbers place (false, pos 0) (omega (arith, counted.0, counted.2)) (omega (arith, counted.1, counted.2))

  pub part_at : (place : ℕ) → place < count → IsPart (get_or texts place false, get_or numbers place (pos 0))
  part_at place h =
      subst IsPart (stands place h)
      (All-get_or IsPart (zip texts numbers) place (false, pos 0) (omega (arith, size, counted.2)) counted.3)

  pub value_at : (place : ℕ) → place < count → Some (whole_of (get_or texts place false, get_or numbers place (pos 0))) ≡ slice_get (listed (Few count texts numbers)) place
  value_at place h =
      let first = get_or-take count (zip texts numbers) place (false, pos 0) h in
      let w = whole_of (get_or texts place false, get_or numbers place (pos 0)) in
      let here = get_or-map whole_of (take count (zip texts numbers)) place (false, pos 0) w (omega (arith, first_size)) in
      sym (slice_get-get_or (listed (Few count texts numbers)) place w (omega (arith, few_size))
      ∙ ap Some (here ∙ ap whole_of (first ∙ stands place h)))

  pub past : (place : ℕ) → count ≤ place → None ≡ slice_get (listed (Few count texts numbers)) place
  past place h = sym (slice_get_past (listed (Few count texts numbers)) place (omega (arith, few_size)))

  -- what stands in a place as a number, whatever stands beside it
  pub number_at : (place : ℕ) → place < count → get_or numbers place (pos 0) ≡ units (slice_get (listed (Few count texts numbers)) place)
  number_at place h =
      number_is (get_or texts place false, get_or numbers place (pos 0)) (part_at place h) ∙ ap units (value_at place h)

  pub small_at : (place : ℕ) → place < count → All SmallValue (listed (Few count texts numbers)) → unsigned_abs (get_or numbers place (pos 0)) ≤ number_limit
  small_at place h all =
      small_part (get_or texts place false, get_or numbers place (pos 0)) (part_at place h)
      (small_got (listed (Few count texts numbers)) place (whole_of (get_or texts place false, get_or numbers place (pos 0))) all (sym (value_at place h)))

  -- One value more stands in the next place.
  pub pushed : (v : Value) → count < 4 → listed (with_value (Few (count + 1) texts numbers) count v) ≡ listed (Few count texts numbers) ++ v ∷ []
  pushed v h =
      let p = parts_of v in
      ap (λ l. map whole_of (take (count + 1) l)) (zip_set texts numbers count p.0 p.1)
      ∙ ap (map whole_of) (take_more_set (zip texts numbers) count p (omega (arith, size)))
      ∙ map-append whole_of (take count (zip texts numbers)) (p ∷ [])
      ∙ ap (λ w. map whole_of (take count (zip texts numbers)) ++ w ∷ []) (whole_parts v)

  pub still_counted : (v : Value) → count < 4 → IsPart (parts_of v) → Counted (with_value (Few (count + 1) texts numbers) count v)
  still_counted v h part =
      let p = parts_of v in (
        length-set texts count p.0 ∙ counted.0,
        length-set numbers count p.1 ∙ counted.1,
        omega arith,
        subst (All IsPart) (sym (zip_set texts numbers count p.0 p.1)) (All-set IsPart (zip texts numbers) count p part counted.3),
      )

-- Places that hold the same give the same values.
pub few_same : (count : ℕ) (texts signs : List Bool) (numbers others : List ℤ) → take count texts ≡ take count signs → take count numbers ≡ take count others → listed (Few count texts numbers) ≡ listed (Few count signs others)
few_same count texts signs numbers others a b =
    ap (map whole_of) (take_zip count texts numbers ∙ (λ i. zip (a i) (b i)) ∙ sym (take_zip count signs others))

-- Two events of so many values have the same values only where their places hold the same.
pub few_alike : (count : ℕ) (texts signs : List Bool) (numbers others : List ℤ) → Counted (Few count texts numbers) → Counted (Few count signs others) → listed (Few count texts numbers) ≡ listed (Few count signs others) → (take count texts ≡ take count signs) × (take count numbers ≡ take count others)
few_alike count texts signs numbers others one other e =
    let left = All-take IsPart count (zip texts numbers) one.3 in
    let right = All-take IsPart count (zip signs others) other.3 in
    let pairs = wholes_alike (take count (zip texts numbers)) (take count (zip signs others)) left right e in
    let zips = sym (take_zip count texts numbers) ∙ pairs ∙ take_zip count signs others in
    let sizes = length-take-le count numbers (omega (arith, one.1, one.2)) ∙ sym (length-take-le count texts (omega (arith, one.0, one.2))) in
    let sizes-2 = length-take-le count others (omega (arith, other.1, other.2)) ∙ sym (length-take-le count signs (omega (arith, other.0, other.2))) in (
      sym (firsts-zip (take count texts) (take count numbers) sizes) ∙ ap (map (λ (p : Bool × ℤ). p.0)) zips ∙ firsts-zip (take count signs) (take count others) sizes-2,
      sym (seconds-zip (take count texts) (take count numbers) sizes) ∙ ap (map (λ (p : Bool × ℤ). p.1)) zips ∙ seconds-zip (take count signs) (take count others) sizes-2,
    )

-- ---- where the values are kept

module _ {count : ℕ} {texts : List Bool} {numbers : List ℤ} where
  pub len_in : (k : Kept) → k ≡ Few count texts numbers → Counted k → count ≡ length (listed k)
  len_in k is counted =
      sym (few_size count texts numbers (subst Counted is counted)) ∙ ap (λ (kept : Kept). length (listed kept)) (sym is)

  pub number_in : (k : Kept) → k ≡ Few count texts numbers → Counted k → (place : ℕ) → place < count → get_or numbers place (pos 0) ≡ units (slice_get (listed k) place)
  number_in k is counted place h =
      number_at count texts numbers (subst Counted is counted) place h ∙ ap (λ (kept : Kept). units (slice_get (listed kept) place)) (sym is)

  pub past_in : (k : Kept) → k ≡ Few count texts numbers → Counted k → (place : ℕ) → count ≤ place → None ≡ slice_get (listed k) place
  past_in k is counted place h =
      past count texts numbers (subst Counted is counted) place h ∙ ap (λ (kept : Kept). slice_get (listed kept) place) (sym is)
