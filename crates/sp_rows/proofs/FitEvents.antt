-- The event that a row gives fits the plan, and its time is not before the last one.
use Rattle.std.proofs.Common.{◌≡◌, ℕ, suc, ℤ, pos, ◌+◌, ◌≤◌, ◌≤ℤ◌, Bool, true, false, ◌==◌, List, [], ◌∷◌, ◌++◌, length, Option, Some, None, map, fold, refl, sym, ◌∙◌, ap, subst, append_assoc, arith}
use Rattle.std.specs.Prelude.{nat_le, int_lt, int_le, unsigned_abs, slice_get, is_none, find, if◌then◌else◌}
use Rattle.std.specs.List.{list_all, zip, enumerate_from, filter_map}
use Rattle.std.specs.Str.{is_utf8}
use Rattle.std.proofs.lemmas.Bool.Decides.{nat_tests}
use Rattle.std.proofs.lemmas.Int.{ints}
use Rattle.sp_base.specs.Limits.{number_limit}
use Rattle.sp_plan.specs.Compiled.{IsTimeOf}
use Rattle.sp_plan.specs.Events.{fits, fits_kind, fits_column}
use Rattle.sp_plan.specs.declared.event.Value.{Value}
use Rattle.sp_plan.specs.declared.event.Value.TheVariants.{Number, Symbol}
use Rattle.sp_plan.specs.declared.plan.Column.{Column}
use Rattle.sp_plan.specs.declared.plan.Kind.{Kind}
use Rattle.sp_plan.specs.declared.plan.Kind.TheVariants.{Int, Dec, Text}
use Rattle.sp_plan.specs.declared.plan.Plan.{Plan}
use Rattle.sp_plan.specs.Texts.{symbol_of}
use Rattle.sp_rows.specs.declared.fault.RowKind.{RowKind}
use Rattle.sp_rows.specs.declared.fault.RowKind.TheVariants.{BackInTime, BadNumber, NotUtf8}
use Rattle.sp_rows.specs.Cells.{RowCells, blank, one, several, row_cells}
use Rattle.sp_rows.specs.Numbers.{number_of}
use Rattle.sp_rows.specs.Rows.{RowsRead, RowResult, nothing, event, refused, Cell, number, text, fault, ColumnAt, or_bad, not_negative, cell_of, cell_or_missing, cell_in, fault_at, fault_in, with_cell, values_of, is_place, columns_at, first_fault, number_in, time_in, time_of, time_place, refused_at, timely, event_or_fault, place_of, header_or_fault, row_of_cells, by_cells, row_result}
use Rattle.sp_rows.proofs.SmallNumbers.{AreSmall, number_small}

-- the header's places are as many as the plan's columns, once it came
abbrev pub PlacesFit : Plan → Option (List ℕ) → Type 0
PlacesFit q None = Unit {0}
PlacesFit q (Some places) = length places ≡ length q.schema.columns

-- what a row gives fits: the event fits the plan and is not before the last time, which is then its own
abbrev pub GivesFit : Plan → RowsRead → RowResult → Type 0
GivesFit q r (nothing so_far) = (so_far.last ≡ r.last) × PlacesFit q so_far.places
GivesFit q r (event e so_far) = (fits q e ≡ true) × (r.last ≤ℤ e.time) × (so_far.last ≡ e.time) × PlacesFit q so_far.places
GivesFit q r (refused f) = Unit {0}

-- ---- cells

-- a cell that is no fault has a value of the kind
abbrev FitsCell : Kind → Cell → Type 0
FitsCell kind (number n) = fits_kind kind (Number n) ≡ true
FitsCell kind (text t) = (s : ℕ) → fits_kind kind (Symbol s) ≡ true
FitsCell kind (fault found) = Unit {0}

cell_choice : (kind : Kind) (b : Bool) (x y : Cell) → FitsCell kind x → FitsCell kind y → FitsCell kind (if b then x else y)
cell_choice kind true x y first second = first
cell_choice kind false x y first second = second

small_fits : (n : ℤ) → unsigned_abs n ≤ number_limit → nat_le (unsigned_abs n) number_limit ≡ true
small_fits n small = grind (arith, nat_tests)

whole_fits : (o : Option ℤ) → AreSmall o → FitsCell Int (or_bad o)
whole_fits None small = tt
whole_fits (Some n) small = small_fits n small

decimal_fits : (p : ℕ) (o : Option ℤ) → AreSmall o → FitsCell (Dec p) (or_bad o)
decimal_fits p None small = tt
decimal_fits p (Some n) small = small_fits n small

time_fits_kind : (o : Option ℤ) → AreSmall o → FitsCell Int (not_negative o)
time_fits_kind None small = tt
time_fits_kind (Some n) small = cell_choice Int (int_lt n (pos 0)) (fault BadNumber) (number n) tt (small_fits n small)

cell_fits : (is_time : Bool) (kind : Kind) (cell : List ℕ) → FitsCell kind (cell_of is_time kind cell)
cell_fits true Int cell = time_fits_kind (number_of 0 cell) (number_small 0 cell)
cell_fits false Int cell = whole_fits (number_of 0 cell) (number_small 0 cell)
cell_fits is_time (Dec p) cell = decimal_fits p (number_of p cell) (number_small p cell)
cell_fits is_time Text cell = cell_choice Text (is_utf8 cell) (text cell) (fault NotUtf8) (λ s. refl) tt

found_fits : (column : ColumnAt) (found : Option (List ℕ)) → FitsCell column.kind (cell_or_missing column found)
found_fits column None = tt
found_fits column (Some cell) = cell_fits column.is_time column.kind cell

-- ---- values

-- the values behind these fit the columns, one for each
record Fitting (qs : List Column) (before after : List Value) : Type 0 where
  own : List Value
  is : after ≡ before ++ own
  size : length qs ≡ length own
  fit : list_all fits_column (zip qs own) ≡ true

-- the columns of a row have the kinds of the plan's
abbrev SameKinds : List Column → List ColumnAt → Type 0
SameKinds [] [] = Unit {0}
SameKinds [] (c ∷ cs) = ⊥
SameKinds (q ∷ qs) [] = ⊥
SameKinds (q ∷ qs) (c ∷ cs) = (q.kind ≡ c.kind) × SameKinds qs cs

-- one value more in front
one_more : (q : Column) (qs : List Column) (before after : List Value) (v : Value) → fits_kind q.kind v ≡ true → Fitting qs (before ++ v ∷ []) after → Fitting (q ∷ qs) before after
one_more q qs before after v fit f = record {
  own = v ∷ f.own;
  is = f.is ∙ append_assoc before (v ∷ []) f.own;
  size = ap (λ (n : ℕ). suc n) f.size;
  fit = rw (fit, f.fit) refl;
}

-- where no column has a fault, neither the first has one nor the others
no_fault : (cells : List (List ℕ)) (c : ColumnAt) (cs : List ColumnAt) (found : Option (RowKind × ℕ)) → fault_at cells c ≡ found → first_fault cells (c ∷ cs) ≡ None → (found ≡ None) × (first_fault cells cs ≡ None)
no_fault cells c cs None is none = (refl, subst (λ o. o ≡ None) (skipped cells c cs is) none)
  where
    skipped : (cells : List (List ℕ)) (c : ColumnAt) (cs : List ColumnAt) → fault_at cells c ≡ None → first_fault cells (c ∷ cs) ≡ first_fault cells cs
    skipped cells c cs is = rw is refl
no_fault cells c cs (Some x) is none = absurd (cc (taken cells c cs x is, none))
  where
    taken : (cells : List (List ℕ)) (c : ColumnAt) (cs : List ColumnAt) (x : RowKind × ℕ) → fault_at cells c ≡ Some x → first_fault cells (c ∷ cs) ≡ Some x
    taken cells c cs x is = rw is refl

values_fit : (cells : List (List ℕ)) (qs : List Column) (cs : List ColumnAt) (so_far : List Value × List (List ℕ)) → SameKinds qs cs → first_fault cells cs ≡ None
    → Fitting qs so_far.0 (fold with_cell so_far (map (cell_in cells) cs)).0
values_fit cells [] [] so_far same none = record { own = []; is = nothing_more so_far.0; size = refl; fit = refl }
  where
    nothing_more : (vs : List Value) → vs ≡ vs ++ []
    nothing_more [] = refl
    nothing_more (v ∷ vs) = ap (λ l. v ∷ l) (nothing_more vs)
values_fit cells [] (c ∷ cs) so_far same none = absurd same
values_fit cells (q ∷ qs) [] so_far same none = absurd same
values_fit cells (q ∷ qs) (c ∷ cs) so_far same none = by_cell (cell_in cells c) refl (subst (λ k. FitsCell k (cell_in cells c)) (sym same.0) (found_fits c (slice_get cells c.place))) (λ next. values_fit cells qs cs next same.1)
  where
    by_cell : (cell : Cell) → cell_in cells c ≡ cell → FitsCell q.kind cell
        → ((next : List Value × List (List ℕ)) → first_fault cells cs ≡ None → Fitting qs next.0 (fold with_cell next (map (cell_in cells) cs)).0)
        → Fitting (q ∷ qs) so_far.0 (fold with_cell (with_cell so_far cell) (map (cell_in cells) cs)).0
    by_cell (number n) is fit ih =
        let rest = no_fault cells c cs None (ap (fault_in c.place) is) none in
        one_more q qs so_far.0 _ (Number n) fit (ih (with_cell so_far (number n)) rest.1)
    by_cell (text t) is fit ih =
        let rest = no_fault cells c cs None (ap (fault_in c.place) is) none in
        one_more q qs so_far.0 _ (Symbol (symbol_of so_far.1 t)) (fit (symbol_of so_far.1 t)) (ih (with_cell so_far (text t)) rest.1)
    by_cell (fault found) is fit ih =
        let rest = no_fault cells c cs (Some (found, c.place + 1)) (ap (fault_in c.place) is) none in
        absurd (cc rest.0)

-- ---- the time

-- a time is from 0 to 10^15
abbrev InTime : ℤ → Type 0
InTime t = (pos 0 ≤ℤ t) × (t ≤ℤ pos number_limit)

abbrev AreWhole : List ColumnAt → Type 0
AreWhole [] = Unit {0}
AreWhole (c ∷ cs) = (c.is_time ≡ true → c.kind ≡ Int) × AreWhole cs

nought : InTime (pos 0)
nought = (omega (arith, ints), omega (arith, ints))

not_negative_time : (o : Option ℤ) → AreSmall o → InTime (number_in (not_negative o))
not_negative_time None small = nought
not_negative_time (Some n) small = by_sign (int_lt n (pos 0)) refl
  where
    by_sign : (b : Bool) → int_lt n (pos 0) ≡ b → InTime (number_in (if b then fault BadNumber else number n))
    by_sign true is = nought
    by_sign false is = (grind (arith, ints), grind (arith, ints))

time_cell : (is_time : Bool) (kind : Kind) (cell : List ℕ) → is_time ≡ true → kind ≡ Int → InTime (number_in (cell_of is_time kind cell))
time_cell true Int cell is whole = not_negative_time (number_of 0 cell) (number_small 0 cell)
time_cell false kind cell is whole = absurd (cc is)
time_cell true (Dec p) cell is whole = absurd (cc whole)
time_cell true Text cell is whole = absurd (cc whole)

time_found : (column : ColumnAt) (found : Option (List ℕ)) → column.is_time ≡ true → column.kind ≡ Int → InTime (number_in (cell_or_missing column found))
time_found column None is whole = nought
time_found column (Some cell) is whole = time_cell column.is_time column.kind cell is whole

time_fits : (cells : List (List ℕ)) (cs : List ColumnAt) → AreWhole cs → InTime (time_of cells cs)
time_fits cells [] whole = nought
time_fits cells (c ∷ cs) whole = by_test c.is_time refl (time_fits cells cs whole.1)
  where
    by_test : (b : Bool) → c.is_time ≡ b → InTime (time_of cells cs) → InTime (time_in cells (if b then Some c else find (λ column. column.is_time) cs))
    by_test true is rest = time_found c (slice_get cells c.place) is (whole.0 is)
    by_test false is rest = rest

-- ---- the columns at their places

-- from this number on the columns are those behind it
abbrev Behind : List Column → ℕ → List Column → Type 0
Behind all i qs = (j : ℕ) → slice_get qs j ≡ slice_get all (i + j)

behind_more : (all : List Column) (i : ℕ) (q : Column) (qs : List Column) → Behind all i (q ∷ qs) → Behind all (i + 1) qs
behind_more all i q qs behind j = behind (suc j) ∙ ap (slice_get all) (there i j)
  where
    there : (i j : ℕ) → i + suc j ≡ i + 1 + j
    there i j = omega arith

module _ (q : Plan) (timed : IsTimeOf q.schema.columns q.schema.time) where
  abbrev at : ℕ → List Column → List ℕ → List ColumnAt
  at i qs ps = map (λ x. record { is_time = is_place q.schema.time x.0; kind = x.1.0.kind; place = x.1.1 }) (enumerate_from i (zip qs ps))

  at_kinds : (i : ℕ) (qs : List Column) (ps : List ℕ) → length ps ≡ length qs → SameKinds qs (at i qs ps)
  at_kinds i [] [] same = tt
  at_kinds i [] (p ∷ ps) same = absurd (cc same)
  at_kinds i (c ∷ qs) [] same = absurd (cc same)
  at_kinds i (c ∷ qs) (p ∷ ps) same = let less : length ps ≡ length qs = omega (arith, same) in (refl, at_kinds (i + 1) qs ps less)

  is_whole_there : (time : Option ℕ) (i : ℕ) (c : Column) → IsTimeOf q.schema.columns time → slice_get q.schema.columns i ≡ Some c → is_place time i ≡ true → c.kind ≡ Int
  is_whole_there None i c whole there is = absurd (cc is)
  is_whole_there (Some place) i c whole there is =
      let here : place ≡ i = grind (arith, nat_tests) in
      let same : whole.0 ≡ c = cc (whole.1, there, ap (slice_get q.schema.columns) here) in
      sym (ap (λ (k : Column). k.kind) same) ∙ whole.2

  at_whole : (i : ℕ) (qs : List Column) (ps : List ℕ) → Behind q.schema.columns i qs → AreWhole (at i qs ps)
  at_whole i [] ps behind = tt
  at_whole i (c ∷ qs) [] behind = tt
  at_whole i (c ∷ qs) (p ∷ ps) behind =
      let here : slice_get q.schema.columns i ≡ Some c = ap (slice_get q.schema.columns) (same i) ∙ sym (behind 0) in
      (λ is. is_whole_there q.schema.time i c timed here is, at_whole (i + 1) qs ps (behind_more q.schema.columns i c qs behind))
    where
      same : (i : ℕ) → i ≡ i + 0
      same i = omega arith

  -- ---- the row

  -- its time is not below 0
  pub time_from_nought : (cells : List (List ℕ)) (places : List ℕ) → pos 0 ≤ℤ time_of cells (columns_at q places)
  time_from_nought cells places = (time_fits cells (columns_at q places) (at_whole 0 q.schema.columns places (λ j. ap (slice_get q.schema.columns) (zero_more j)))).0
    where
      zero_more : (j : ℕ) → j ≡ 0 + j
      zero_more j = omega arith

  event_fits : (cells : List (List ℕ)) (texts : List (List ℕ)) (places : List ℕ) → length places ≡ length q.schema.columns → first_fault cells (columns_at q places) ≡ None
      → fits q (record { time = time_of cells (columns_at q places); values = (values_of texts cells (columns_at q places)).0 }) ≡ true
  event_fits cells texts places same none =
      let f = values_fit cells q.schema.columns (columns_at q places) ([], texts) (at_kinds 0 q.schema.columns places same) none in
      let t = time_fits cells (columns_at q places) (at_whole 0 q.schema.columns places (λ j. ap (slice_get q.schema.columns) (zero_more j))) in
      let low : int_le (pos 0) (time_of cells (columns_at q places)) ≡ true = grind (arith, ints) in
      let high : int_le (time_of cells (columns_at q places)) (pos number_limit) ≡ true = grind (arith, ints) in
      let size : (length q.schema.columns == length f.own) ≡ true = grind (arith, nat_tests) in
      rw (f.is, low, high, size, f.fit) refl
    where
      zero_more : (j : ℕ) → j ≡ 0 + j
      zero_more j = omega arith

  timely_fits : (r : RowsRead) (cells : List (List ℕ)) (places : List ℕ) → length places ≡ length q.schema.columns → r.places ≡ Some places → first_fault cells (columns_at q places) ≡ None → GivesFit q r (timely r cells (columns_at q places))
  timely_fits r cells places same placed none = by_time (int_lt (time_of cells (columns_at q places)) r.last) refl
    where
      by_time : (b : Bool) → int_lt (time_of cells (columns_at q places)) r.last ≡ b → GivesFit q r (if b then refused_at r (BackInTime r.last (time_of cells (columns_at q places))) (time_place (columns_at q places))
          else event (record { time = time_of cells (columns_at q places); values = (values_of r.texts cells (columns_at q places)).0 })
          (record r { read = r.read + 1; last = time_of cells (columns_at q places); texts = (values_of r.texts cells (columns_at q places)).1 }))
      by_time true is = tt
      by_time false is = (event_fits cells r.texts places same none, grind (arith, ints), refl, subst (PlacesFit q) (sym placed) same)

  row_event_fits : (r : RowsRead) (cells : List (List ℕ)) (places : List ℕ) (found : Option (RowKind × ℕ)) → length places ≡ length q.schema.columns → r.places ≡ Some places → first_fault cells (columns_at q places) ≡ found
      → GivesFit q r (event_or_fault r cells (columns_at q places) found)
  row_event_fits r cells places None same placed is = timely_fits r cells places same placed is
  row_event_fits r cells places (Some found) same placed is = tt

  -- ---- the header

  all_placed : (cells : List (List ℕ)) (qs : List Column) → find (λ column. is_none (place_of cells column)) qs ≡ None → length (filter_map (place_of cells) qs) ≡ length qs
  all_placed cells [] none = refl
  all_placed cells (c ∷ qs) none = by_place (place_of cells c) refl (λ rest. all_placed cells qs rest)
    where
      by_place : (p : Option ℕ) → place_of cells c ≡ p → (find (λ column. is_none (place_of cells column)) qs ≡ None → length (filter_map (place_of cells) qs) ≡ length qs) → length (filter_map (place_of cells) (c ∷ qs)) ≡ length (c ∷ qs)
      by_place None is ih = absurd (cc (subst (λ (p : Option ℕ). (if is_none p then Some c else find (λ column. is_none (place_of cells column)) qs) ≡ None) is none))
      by_place (Some p) is ih =
          let rest : find (λ column. is_none (place_of cells column)) qs ≡ None = subst (λ (p : Option ℕ). (if is_none p then Some c else find (λ column. is_none (place_of cells column)) qs) ≡ None) is none in
          rw is (ap (λ (n : ℕ). suc n) (ih rest))

  header_fits : (r : RowsRead) (cells : List (List ℕ)) (lacking : Option Column) → find (λ column. is_none (place_of cells column)) q.schema.columns ≡ lacking → GivesFit q r (header_or_fault q r cells lacking)
  header_fits r cells (Some column) is = tt
  header_fits r cells None is = (refl, all_placed cells q.schema.columns is)

  placed_fits : (r : RowsRead) (cells : List (List ℕ)) (places : Option (List ℕ)) → PlacesFit q places → r.places ≡ places → GivesFit q r (row_of_cells q r cells places)
  placed_fits r cells None fit is = header_fits r cells _ refl
  placed_fits r cells (Some places) fit is = row_event_fits r cells places (first_fault cells (columns_at q places)) fit is refl

  read_fits : (r : RowsRead) (read : RowCells) → PlacesFit q r.places → GivesFit q r (by_cells q r read)
  read_fits r blank fit = (refl, fit)
  read_fits r several fit = tt
  read_fits r (one cells) fit = placed_fits r cells r.places fit refl

  -- what a row gives fits, behind rows that fitted
  pub row_fits : (r : RowsRead) (bytes : List ℕ) → PlacesFit q r.places → GivesFit q r (row_result q r bytes)
  row_fits r bytes fit = read_fits r (row_cells bytes) fit
