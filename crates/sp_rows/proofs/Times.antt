-- The time of a row, among its values.
use Rattle.std.proofs.Common.{◌≡◌, ℕ, zero, suc, ℤ, pos, ◌+◌, Bool, true, false, eqb, List, [], ◌∷◌, ◌++◌, Some, None, refl, sym, ◌∙◌, ap, arith, map, fold, append_assoc}
use Rattle.std.specs.Prelude.{Option}
use Rattle.std.specs.List.{slice_get, enumerate_from, zip, find, filter_map, cons_option}
use Rattle.std.specs.Option.{option_map}
use Rattle.std.proofs.lemmas.Bool.Decides.{nat_tests}
use Rattle.std.proofs.lemmas.List.{map-append, append-nil}
use Rattle.std.proofs.lemmas.Option.{slice_get-map}
use Rattle.sp_plan.specs.declared.plan.Plan.{Plan}
use Rattle.sp_plan.specs.declared.event.Value.{Value}
use Rattle.sp_plan.specs.declared.event.Value.TheVariants.{Number, Symbol}
use Rattle.sp_rows.specs.declared.fault.RowKind.{RowKind}
use Rattle.sp_rows.specs.Rows.{Cell, number, text, fault, ColumnAt, is_place, columns_at, cell_in, fault_in, fault_at, number_in, time_in, time_of, with_cell, values_of}
use Rattle.sp_rows.specs.RowValues.{fault_of, number_or_zero, value_or_zero, time_among}
use Rattle.sp_rows.proofs.PlacedColumns.{column_by}

same_number : (own n : ℕ) → own ≡ n + 0 → eqb own n ≡ true
same_number own n is = grind (arith, nat_tests)

other_number : (own n k : ℕ) → own ≡ n + suc k → eqb own n ≡ false
other_number own n k is = grind (arith, nat_tests)

module _ {X Y Z : Type 0} (f : ℕ × (X × Y) → Z) (p : Z → Bool) where
  -- where only the item of one number passes, it is the first
  first_own : (own : ℕ) → ((x : ℕ × (X × Y)) → p (f x) ≡ eqb own x.0) → (n k : ℕ) → own ≡ n + k → (xs : List X) (ys : List Y)
      → find p (map f (enumerate_from n (zip xs ys))) ≡ slice_get (map f (enumerate_from n (zip xs ys))) k
  first_own own is n k sum [] ys = refl
  first_own own is n k sum (a ∷ xs) [] = refl
  first_own own is n zero sum (a ∷ xs) (b ∷ ys) = let here : p (f (n, (a, b))) ≡ true = is (n, (a, b)) ∙ same_number own n sum in rw here refl
  first_own own is n (suc k) sum (a ∷ xs) (b ∷ ys) =
      let other : p (f (n, (a, b))) ≡ false = is (n, (a, b)) ∙ other_number own n k sum in
      rw other (first_own own is (n + 1) k (omega arith) xs ys)

  -- where none passes, there is none
  never : ((x : ℕ × (X × Y)) → p (f x) ≡ false) → (zs : List (ℕ × (X × Y))) → find p (map f zs) ≡ None
  never fails [] = refl
  never fails (z ∷ zs) = rw (fails z) (never fails zs)

-- the column of the time, by its number
pub own_column : (q : Plan) (places : List ℕ) (own : ℕ) → q.schema.time ≡ Some own → find (λ column. column.is_time) (columns_at q places) ≡ slice_get (columns_at q places) own
own_column q places own is =
    first_own (column_by q) (λ (column : ColumnAt). column.is_time) own (λ x. ap (λ (time : Option ℕ). is_place time x.0) is) 0 own (omega arith) q.schema.columns places

-- a plan without a time has no column of it
pub no_column : (q : Plan) (places : List ℕ) → q.schema.time ≡ None → find (λ column. column.is_time) (columns_at q places) ≡ None
no_column q places is =
    never (column_by q) (λ (column : ColumnAt). column.is_time) (λ x. ap (λ (time : Option ℕ). is_place time x.0) is) (enumerate_from 0 (zip q.schema.columns places))

-- a cell gives a fault of this kind
pub some_fault : (place : ℕ) (cell : Cell) (kind : RowKind) → Some kind ≡ fault_of cell → fault_in place cell ≡ Some (kind, place + 1)
some_fault place (number n) kind is = absurd (cc is)
some_fault place (text t) kind is = absurd (cc is)
some_fault place (fault other) kind is = let same : other ≡ kind = cc in ap (λ (k : RowKind). Some (k, place + 1)) same

-- a cell gives no fault
pub no_fault : (place : ℕ) (cell : Cell) → None ≡ fault_of cell → fault_in place cell ≡ None
no_fault place (number n) is = refl
no_fault place (text t) is = refl
no_fault place (fault other) is = absurd (cc is)

-- the number that a cell without a fault gives is the one of its value
one_number : (place : ℕ) (so_far : List Value × List (List ℕ)) (cell : Cell) → fault_in place cell ≡ None → map number_or_zero (with_cell so_far cell).0 ≡ map number_or_zero so_far.0 ++ number_in cell ∷ []
one_number place so_far (number n) none = map-append number_or_zero so_far.0 (Number n ∷ [])
one_number place so_far (text t) none = map-append number_or_zero so_far.0 (Symbol _ ∷ [])
one_number place so_far (fault kind) none = absurd (cc none)

first_none : {X : Type 0} (o : Option X) (xs : List X) → cons_option o xs ≡ [] → (o ≡ None) × (xs ≡ [])
first_none None xs none = (refl, none)
first_none (Some x) xs none = absurd (cc none)

-- the numbers of a row without a fault are those of its values
numbers_read : (cells : List (List ℕ)) (so_far : List Value × List (List ℕ)) (columns : List ColumnAt) → filter_map (fault_at cells) columns ≡ []
    → map number_or_zero (fold with_cell so_far (map (cell_in cells) columns)).0 ≡ map number_or_zero so_far.0 ++ map (λ column. number_in (cell_in cells column)) columns
numbers_read cells so_far [] none = sym (append-nil (map number_or_zero so_far.0))
numbers_read cells so_far (column ∷ columns) none =
    let parts = first_none (fault_at cells column) (filter_map (fault_at cells) columns) none in
    let rest = map (λ (c : ColumnAt). number_in (cell_in cells c)) columns in
    numbers_read cells (with_cell so_far (cell_in cells column)) columns parts.1
    ∙ ap (λ (l : List ℤ). l ++ rest) (one_number column.place so_far (cell_in cells column) parts.0)
    ∙ append_assoc (map number_or_zero so_far.0) (number_in (cell_in cells column) ∷ []) rest

abbrev or_zero : Option ℤ → ℤ
or_zero None = pos 0
or_zero (Some n) = n

value_is : (o : Option Value) → value_or_zero o ≡ or_zero (option_map number_or_zero o)
value_is None = refl
value_is (Some value) = refl

time_is : (cells : List (List ℕ)) (o : Option ColumnAt) → or_zero (option_map (λ column. number_in (cell_in cells column)) o) ≡ time_in cells o
time_is cells None = refl
time_is cells (Some column) = refl

-- the number at a place of a row without a fault
number_at : (cells texts : List (List ℕ)) (columns : List ColumnAt) (i : ℕ) → filter_map (fault_at cells) columns ≡ [] → value_or_zero (slice_get (values_of texts cells columns).0 i) ≡ time_in cells (slice_get columns i)
number_at cells texts columns i none =
    let number_of = λ (c : ColumnAt). number_in (cell_in cells c) in
    value_is (slice_get (values_of texts cells columns).0 i)
    ∙ ap or_zero (sym (slice_get-map number_or_zero (values_of texts cells columns).0 i))
    ∙ ap (λ (l : List ℤ). or_zero (slice_get l i)) (numbers_read cells ([], texts) columns none)
    ∙ ap or_zero (slice_get-map number_of columns i)
    ∙ time_is cells (slice_get columns i)

-- the time of a row without a fault, by the place that the plan gives
time_by : (q : Plan) (places : List ℕ) (cells texts : List (List ℕ)) (time : Option ℕ) → q.schema.time ≡ time → filter_map (fault_at cells) (columns_at q places) ≡ []
    → time_among (values_of texts cells (columns_at q places)).0 time ≡ time_of cells (columns_at q places)
time_by q places cells texts None is none = ap (time_in cells) (sym (no_column q places is))
time_by q places cells texts (Some own) is none = number_at cells texts (columns_at q places) own none ∙ ap (time_in cells) (sym (own_column q places own is))

-- the time of a row without a fault stands among its values
pub time_read : (q : Plan) (places : List ℕ) (cells texts known : List (List ℕ)) (values : List Value) → (values, known) ≡ values_of texts cells (columns_at q places) → filter_map (fault_at cells) (columns_at q places) ≡ []
    → time_among values q.schema.time ≡ time_of cells (columns_at q places)
time_read q places cells texts known values is none =
    ap (λ (both : List Value × List (List ℕ)). time_among both.0 q.schema.time) is ∙ time_by q places cells texts q.schema.time refl none
