-- What is read of a row suits the plan.
use Rattle.std.proofs.Common.{◌≡◌, ◌==◌, ◌&&◌, ℕ, pos, ◌+◌, ◌≤ℤ◌, Bool, true, false, List, length, refl, sym, ◌∙◌, ap, subst, arith}
use Rattle.std.specs.Prelude.{Option, Some, None, is_none, find, int_lt, int_le, slice_get, if◌then◌else◌}
use Rattle.std.specs.Option.{option_map}
use Rattle.sp_plan.specs.Compiled.{IsTimeOf}
use Rattle.sp_plan.specs.declared.event.Event.{Event}
use Rattle.sp_plan.specs.declared.plan.Column.{Column}
use Rattle.sp_plan.specs.declared.plan.Kind.{Kind}
use Rattle.sp_plan.specs.declared.plan.Kind.TheVariants.{Int}
use Rattle.sp_plan.specs.declared.plan.Plan.{Plan}
use Rattle.sp_rows.specs.declared.rows.Rows.{Rows}
use Rattle.std.specs.List.{list_all, zip}
use Rattle.std.proofs.lemmas.Int.{ints}
use Rattle.sp_base.specs.Limits.{number_limit}
use Rattle.sp_plan.specs.Events.{fits, fits_column}
use Rattle.sp_rows.specs.declared.fault.RowKind.{RowKind}
use Rattle.sp_rows.specs.declared.fault.RowKind.TheVariants.{BackInTime}
use Rattle.sp_rows.specs.Cells.{RowCells, blank, one, several, row_cells}
use Rattle.sp_rows.specs.Progress.{plan_of, is_loose, read_of}
use Rattle.sp_rows.specs.Rows.{RowsRead, RowResult, nothing, event, refused, ColumnAt, columns_at, first_fault, time_of, time_place, values_of, refused_at, event_or_fault, header_or_fault, place_of, row_of_cells, by_cells, row_result, given_if}
use Rattle.sp_rows.proofs.FitEvents.{PlacesFit, GivesFit, row_fits}
use Rattle.sp_intake.specs.Reader.{SuitsPlan}

time_is : (columns : List Column) (place : ℕ) (found : Option Column) → slice_get columns place ≡ found → option_map (λ column. column.kind) found ≡ Some Int → IsTimeOf columns (Some place)
time_is columns place (Some column) is kind = (column, is, cc kind)
time_is columns place None is kind = absurd (cc kind)

timed_of : (columns : List Column) (time : Option ℕ) → ((place : ℕ) → time ≡ Some place → option_map (λ column. column.kind) (slice_get columns place) ≡ Some Int) → IsTimeOf columns time
timed_of columns None timed = tt
timed_of columns (Some place) timed = time_is columns place (slice_get columns place) refl (timed place refl)

timed_at : (columns : List Column) (place : ℕ) → IsTimeOf columns (Some place) → option_map (λ column. column.kind) (slice_get columns place) ≡ Some Int
timed_at columns place timed =
    ap (option_map (λ (column : Column). column.kind)) timed.1 ∙ ap (λ (k : Kind). Some k) timed.2

placed_of : (q : Plan) (found : Option (List ℕ)) → ((places : List ℕ) → found ≡ Some places → length places ≡ length q.schema.columns) → PlacesFit q found
placed_of q None placed = tt
placed_of q (Some places) placed = placed places refl

-- what was read so far fits, with a plan that has the time
pub suits_with : (rows : Rows) → IsTimeOf (plan_of rows).schema.columns (plan_of rows).schema.time → PlacesFit (plan_of rows) (read_of rows).places → is_loose rows ≡ true → SuitsPlan rows
suits_with rows timed placed loose = record {
  timed = λ place is. timed_at (plan_of rows).schema.columns place (subst (IsTimeOf (plan_of rows).schema.columns) is timed);
  placed = λ places is. subst (PlacesFit (plan_of rows)) is placed;
  loose = loose;
}

pub suits_time : (rows : Rows) → SuitsPlan rows → IsTimeOf (plan_of rows).schema.columns (plan_of rows).schema.time
suits_time rows suits = timed_of (plan_of rows).schema.columns (plan_of rows).schema.time suits.timed

pub suits_places : (rows : Rows) → SuitsPlan rows → PlacesFit (plan_of rows) (read_of rows).places
suits_places rows suits = placed_of (plan_of rows) (read_of rows).places suits.placed

-- the plan is the same, and the places fit it
pub suits_as : (old new : Rows) → SuitsPlan old → plan_of new ≡ plan_of old → PlacesFit (plan_of old) (read_of new).places → is_loose new ≡ is_loose old → SuitsPlan new
suits_as old new suits plan placed same =
    suits_with new (subst (λ (q : Plan). IsTimeOf q.schema.columns q.schema.time) (sym plan) (suits_time old suits)) (subst (λ (q : Plan). PlacesFit q (read_of new).places) (sym plan) placed) (same ∙ suits.loose)

-- so are the places
pub suits_placed : (old new : Rows) → SuitsPlan old → plan_of new ≡ plan_of old → (read_of new).places ≡ (read_of old).places → is_loose new ≡ is_loose old → SuitsPlan new
suits_placed old new suits plan is same = suits_as old new suits plan (subst (PlacesFit (plan_of old)) (sym is) (suits_places old suits)) same

-- what was read is the same
pub suits_still : (old new : Rows) → SuitsPlan old → plan_of new ≡ plan_of old → read_of new ≡ read_of old → is_loose new ≡ is_loose old → SuitsPlan new
suits_still old new suits plan is same = suits_placed old new suits plan (ap (λ (r : RowsRead). r.places) is) same

-- ---- a row that gives an event leaves the places

abbrev KeepsPlaces : RowsRead → RowResult → Type 0
KeepsPlaces r (nothing so_far) = Unit {0}
KeepsPlaces r (event e so_far) = so_far.places ≡ r.places
KeepsPlaces r (refused f) = Unit {0}

module _ (q : Plan) (r : RowsRead) (cells : List (List ℕ)) where
  keeps_event : (columns : List ColumnAt) (found : Option (RowKind × ℕ)) → KeepsPlaces r (event_or_fault r cells columns found)
  keeps_event columns (Some found) = tt
  keeps_event columns None = by (int_lt (time_of cells columns) r.last)
    where
      by : (b : Bool) → KeepsPlaces r (if b then refused_at r (BackInTime r.last (time_of cells columns)) (time_place columns)
          else event (record { time = time_of cells columns; values = (values_of r.texts cells columns).0 }) (record r { read = r.read + 1; last = time_of cells columns; texts = (values_of r.texts cells columns).1 }))
      by true = tt
      by false = refl

  keeps_header : (lacking : Option Column) → KeepsPlaces r (header_or_fault q r cells lacking)
  keeps_header (Some column) = tt
  keeps_header None = tt

  keeps_cells : (places : Option (List ℕ)) → KeepsPlaces r (row_of_cells q r cells places)
  keeps_cells None = keeps_header (find (λ column. is_none (place_of cells column)) q.schema.columns)
  keeps_cells (Some places) = keeps_event (columns_at q places) (first_fault cells (columns_at q places))

keeps_row : (q : Plan) (r : RowsRead) (cells : RowCells) → KeepsPlaces r (by_cells q r cells)
keeps_row q r blank = tt
keeps_row q r several = tt
keeps_row q r (one cells) = keeps_cells q r cells r.places

-- ---- what a row gives where times may go back

-- an event fits the plan, and the places fit it
abbrev LooseFit : Plan → RowsRead → RowResult → Type 0
LooseFit q r (nothing so_far) = PlacesFit q so_far.places
LooseFit q r (event e so_far) = (fits q e ≡ true) × (so_far.places ≡ r.places)
LooseFit q r (refused f) = Unit {0}

loose_fit : (q : Plan) (r : RowsRead) (given : RowResult) → GivesFit q r given → KeepsPlaces r given → LooseFit q r (given_if true given)
loose_fit q r (nothing so_far) fit keeps = fit.1
loose_fit q r (event e so_far) fit keeps = (fit.0, keeps)
loose_fit q r (refused f) fit keeps = tt

module _ (old : Rows) (suits : SuitsPlan old) (bytes : List ℕ) (given : RowResult) (is : given_if (is_loose old) (row_result (plan_of old) (read_of old) bytes) ≡ given) where
  -- what the next row gives, in the words of the reading
  pub loose_is : given_if true (row_result (plan_of old) (read_of old) bytes) ≡ given
  loose_is = sym (ap (λ (loose : Bool). given_if loose (row_result (plan_of old) (read_of old) bytes)) suits.loose) ∙ is

  gives_fit : LooseFit (plan_of old) (read_of old) given
  gives_fit =
      subst (LooseFit (plan_of old) (read_of old)) loose_is
      (loose_fit (plan_of old) (read_of old) (row_result (plan_of old) (read_of old) bytes) (row_fits (plan_of old) (suits_time old suits) (read_of old) bytes (suits_places old suits)) (keeps_row (plan_of old) (read_of old) (row_cells bytes)))

third_and_fourth : (a b c d : Bool) → (a && b && c && d) ≡ true → (c ≡ true) × (d ≡ true)
third_and_fourth true true true true is = (refl, refl)
third_and_fourth true true true false is = absurd (cc is)
third_and_fourth true true false d is = absurd (cc is)
third_and_fourth true false c d is = absurd (cc is)
third_and_fourth false b c d is = absurd (cc is)

-- the time of an event that fits is 0 to the greatest number
pub time_between : (q : Plan) (e : Event) → fits q e ≡ true → (pos 0 ≤ℤ e.time) × (e.time ≤ℤ pos number_limit)
time_between q e fit =
    let both : (int_le (pos 0) e.time ≡ true) × (int_le e.time (pos number_limit) ≡ true) =
    third_and_fourth (length q.schema.columns == length e.values) (list_all fits_column (zip q.schema.columns e.values)) (int_le (pos 0) e.time) (int_le e.time (pos number_limit)) fit in
    let low = both.0 in
    let high = both.1 in
    (grind (arith, ints, low), grind (arith, ints, high))

-- a row that gives no event
module _ (old new : Rows) (suits : SuitsPlan old) (bytes : List ℕ) (is : given_if (is_loose old) (row_result (plan_of old) (read_of old) bytes) ≡ nothing (read_of new)) where
  pub nothing_suits : plan_of new ≡ plan_of old → is_loose new ≡ is_loose old → SuitsPlan new
  nothing_suits plan same = suits_as old new suits plan (gives_fit old suits bytes (nothing (read_of new)) is) same

-- a row that gives an event
module _ (old new : Rows) (suits : SuitsPlan old) (bytes : List ℕ) (e : Event) (is : given_if (is_loose old) (row_result (plan_of old) (read_of old) bytes) ≡ event e (read_of new)) where
  pub event_fits : fits (plan_of old) e ≡ true
  event_fits = (gives_fit old suits bytes (event e (read_of new)) is).0

  pub event_places : (read_of new).places ≡ (read_of old).places
  event_places = (gives_fit old suits bytes (event e (read_of new)) is).1

  pub event_suits : plan_of new ≡ plan_of old → is_loose new ≡ is_loose old → SuitsPlan new
  event_suits plan same = suits_as old new suits plan (subst (PlacesFit (plan_of old)) (sym event_places) (suits_places old suits)) same
