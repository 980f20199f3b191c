use Rattle.std.proofs.Common.{◌≡◌, ◌≤◌, length, ◌∙◌, ap, sym, refl, Some, Bool, List}
use Rattle.std.specs.Prelude.{Option}
use Rattle.std.specs.List.{slice_get}
use Rattle.std.proofs.lemmas.Option.{slice_get_read}
use Rattle.sp_plan.specs.declared.plan.Column.{Column}
use Rattle.sp_rows.specs.Rows.{ColumnAt}
use Rattle.sp_rows.proofs.PlacedColumns.{column_of_number, columns_end, places_end}
use Rattle.sp_rows.proofs.columns.column_at.Goals as goal

-- there is this column
abbrev some_column : ColumnAt → Option ColumnAt
some_column column = Some column

pub returns-in_err-column : goal.returns-in_err-column
returns-in_err-column c =
    let past : length c.args.plan.now.schema.columns ≤ c.args.number = rw (← c.as_slice.ensures) c.in_err-column.ensures.lookup.3 in
    rw c.from_residual.ensures (sym (columns_end c.args.plan.now c.args.places.now c.args.number past))

pub returns-in_err-place : goal.returns-in_err-place
returns-in_err-place c = rw c.from_residual-in_err-place.ensures (sym (places_end c.args.plan.now c.args.places.now c.args.number c.in_err-place.ensures.lookup.3))

pub returns : goal.returns
returns c =
    let q = c.args.plan.now in
    let a = c.in_ok-column in
    let b = c.in_ok-place in
    let first : slice_get q.schema.columns c.args.number ≡ Some a.column.now =
    ap (λ (l : List Column). slice_get l c.args.number) (sym c.as_slice.ensures) ∙ slice_get_read c.as_slice.result.now (length c.as_slice.result.now) c.args.number a.column.now refl a.ensures.lookup.3.0 a.ensures.lookup.1 in
    let second : slice_get c.args.places.now c.args.number ≡ Some b.place.now = slice_get_read c.args.places.now (length c.args.places.now) c.args.number b.place.now refl b.ensures.lookup.3.0 b.ensures.lookup.1 in
    ap (λ (t : Bool). some_column (record { is_time = t; kind = a.column.now.kind; place = b.place.now })) c.is_time.ensures
    ∙ sym (column_of_number q c.args.places.now c.args.number a.column.now b.place.now first second)
