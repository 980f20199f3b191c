-- The columns of the plan with their places.
use Rattle.std.proofs.Common.{◌≡◌, ℕ, zero, suc, ◌+◌, ◌<◌, ◌≤◌, List, [], ◌∷◌, length, get_or, Some, None, refl, sym, ◌∙◌, ap, arith, map}
use Rattle.std.proofs.lemmas.List.{length-map}
use Rattle.std.specs.Prelude.{Option}
use Rattle.std.specs.Option.{option_map}
use Rattle.std.proofs.lemmas.Option.{slice_get-map, slice_get-get_or, slice_get_past}
use Rattle.std.specs.List.{slice_get, enumerate_from, zip}
use Rattle.sp_plan.specs.declared.plan.Plan.{Plan}
use Rattle.sp_plan.specs.declared.plan.Column.{Column}
use Rattle.sp_rows.specs.Rows.{ColumnAt, is_place, columns_at}

module _ {X Y Z : Type 0} (f : ℕ × (X × Y) → Z) where
  -- where both lists have an item
  both : (n i : ℕ) (xs : List X) (ys : List Y) (x : X) (y : Y) → slice_get xs i ≡ Some x → slice_get ys i ≡ Some y → slice_get (map f (enumerate_from n (zip xs ys))) i ≡ Some (f (n + i, (x, y)))
  both n i [] ys x y first second = absurd (cc first)
  both n i (a ∷ xs) [] x y first second = absurd (cc second)
  both n zero (a ∷ xs) (b ∷ ys) x y first second =
      let is_x : a ≡ x = cc in
      let is_y : b ≡ y = cc in
      let number : n ≡ n + 0 = omega arith in
      λ j. Some (f (number j, (is_x j, is_y j)))
  both n (suc i) (a ∷ xs) (b ∷ ys) x y first second =
      let number : n + 1 + i ≡ n + suc i = omega arith in
      both (n + 1) i xs ys x y first second ∙ ap (λ (m : ℕ). Some (f (m, (x, y)))) number

  -- where the first list has none
  first_ends : (n i : ℕ) (xs : List X) (ys : List Y) → length xs ≤ i → slice_get (map f (enumerate_from n (zip xs ys))) i ≡ None
  first_ends n i [] ys past = refl
  first_ends n i (a ∷ xs) [] past = refl
  first_ends n zero (a ∷ xs) (b ∷ ys) past = absurd (omega arith)
  first_ends n (suc i) (a ∷ xs) (b ∷ ys) past = first_ends (n + 1) i xs ys (omega arith)

  -- where the second list has none
  second_ends : (n i : ℕ) (xs : List X) (ys : List Y) → length ys ≤ i → slice_get (map f (enumerate_from n (zip xs ys))) i ≡ None
  second_ends n i [] ys past = refl
  second_ends n i (a ∷ xs) [] past = refl
  second_ends n zero (a ∷ xs) (b ∷ ys) past = absurd (omega arith)
  second_ends n (suc i) (a ∷ xs) (b ∷ ys) past = second_ends (n + 1) i xs ys (omega arith)

-- a column with its place
abbrev pub column_by : Plan → ℕ × (Column × ℕ) → ColumnAt
column_by q x = record { is_time = is_place q.schema.time x.0; kind = x.1.0.kind; place = x.1.1 }

-- the column of a number
pub column_of_number : (q : Plan) (places : List ℕ) (i : ℕ) (column : Column) (place : ℕ) → slice_get q.schema.columns i ≡ Some column → slice_get places i ≡ Some place
    → slice_get (columns_at q places) i ≡ Some (record { is_time = is_place q.schema.time i; kind = column.kind; place = place })
column_of_number q places i column place first second =
    both (column_by q) 0 i q.schema.columns places column place first second ∙ ap (λ (m : ℕ). Some (column_by q (m, (column, place)))) (omega arith)

-- past the columns of the plan there is none
pub columns_end : (q : Plan) (places : List ℕ) (i : ℕ) → length q.schema.columns ≤ i → slice_get (columns_at q places) i ≡ None
columns_end q places i past = first_ends (column_by q) 0 i q.schema.columns places past

-- past the places there is none
pub places_end : (q : Plan) (places : List ℕ) (i : ℕ) → length places ≤ i → slice_get (columns_at q places) i ≡ None
places_end q places i past = second_ends (column_by q) 0 i q.schema.columns places past

module _ {X Y : Type 0} (f : X → Y) where
  -- an item that was made of another stands where that stands
  pub made_there : (all : List Y) (xs : List X) (i : ℕ) (x : X) → map f xs ≡ all → i < length xs → slice_get all i ≡ Some (f (get_or xs i x))
  made_there all xs i x made within =
      ap (λ (l : List Y). slice_get l i) (sym made) ∙ slice_get-map f xs i ∙ ap (λ (o : Option X). option_map f o) (slice_get-get_or xs i x within)

  -- and past them all stands none
  pub made_past : (all : List Y) (xs : List X) (i : ℕ) → map f xs ≡ all → length xs ≤ i → slice_get all i ≡ None
  made_past all xs i made past = ap (λ (l : List Y). slice_get l i) (sym made) ∙ slice_get_past (map f xs) i (omega (arith, length-map xs f))
