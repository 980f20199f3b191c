use Rattle.std.proofs.Common.{◌≡◌, ◌∙◌, ap, sym, None, List, ℕ, ◌+◌, false, get_or, arith}
use Rattle.std.proofs.lemmas.Grind.{common_steps}
use Rattle.std.specs.List.{slice_get, filter_map}
use Rattle.sp_plan.specs.declared.plan.Kind.TheVariants.{Int}
use Rattle.sp_rows.specs.declared.columns.Placed.{Placed}
use Rattle.sp_rows.specs.declared.fault.RowKind.{RowKind}
use Rattle.sp_rows.specs.Rows.{columns_at, values_of, with_cell, fault_at, cell_in}
use Rattle.sp_rows.specs.Shapes.{fields_in, column_of}
use Rattle.sp_rows.specs.RowValues.{fault_of}
use Rattle.sp_rows.proofs.Walks.{taken_all, gives_none, gives_first}
use Rattle.sp_rows.proofs.RowValues.{one_more_value, begins_still}
use Rattle.sp_rows.proofs.PlacedColumns.{made_there, made_past}
use Rattle.sp_rows.proofs.Times.{some_fault, no_fault, time_read}
use Rattle.sp_rows.proofs.values.read_values.Goals as goal

-- what is read past all columns
abbrev none : Placed
none = record { is_time = false; kind = Int; place = 0 }

pub returns-in-Some-clause-given : goal.returns-in-Some-clause-given
returns-in-Some-clause-given c =
    let columns = columns_at c.args.layout.now.plan.now c.args.layout.now.places.now in
    let placed = get_or c.args.layout.now.columns.now c.loop-column.column-index none in
    let column = column_of placed in
    let here = made_there column_of columns c.args.layout.now.columns.now c.loop-column.column-index none c.args.layout.now.placed c.loop-column-test.true in
    let cells = fields_in c.args.cells.now in
    let kind = c.in-Some.kind in
    gives_first (fault_at cells) columns c.loop-column.column-index column (kind, placed.place + 1) c.loop-column.invariant.whole here
    (some_fault column.place (cell_in cells column) kind (sym c.in-Some.is ∙ c.in_ok-kind.ensures.fault ∙ ap fault_of c.content_in-content.ensures))

pub loop-column-preserved : goal.loop-column-preserved
loop-column-preserved c =
    let columns = columns_at c.args.layout.now.plan.now c.args.layout.now.places.now in
    let placed = get_or c.args.layout.now.columns.now c.loop-column.column-index none in
    let column = column_of placed in
    let here = made_there column_of columns c.args.layout.now.columns.now c.loop-column.column-index none c.args.layout.now.placed c.loop-column-test.true in
    let cells = fields_in c.args.cells.now in
    record {
      values =
          c.in_ok-kind.ensures.value
          ∙ (λ i. with_cell (c.loop-column.invariant.values i) (c.content_in-content.ensures i))
          ∙ sym (one_more_value c.args.texts.now cells columns c.loop-column.column-index column here);
      whole = gives_none (fault_at cells) columns c.loop-column.column-index column c.loop-column.invariant.whole here
          (no_fault column.place (cell_in cells column) (sym c.in_default.is ∙ c.in_ok-kind.ensures.fault ∙ ap fault_of c.content_in-content.ensures));
      kept = begins_still c.args.texts.now c.loop-column.texts c.push_content.new.texts c.loop-column.invariant.kept c.push_content.ensures.kept;
    }

pub returns-clause-given : goal.returns-clause-given
returns-clause-given c =
    let columns = columns_at c.args.layout.now.plan.now c.args.layout.now.places.now in
    let cells = fields_in c.args.cells.now in
    let past : slice_get columns c.loop-column.column-index ≡ None = made_past column_of columns c.args.layout.now.columns.now c.loop-column.column-index c.args.layout.now.placed c.loop-column-test.false in
    let all = taken_all columns c.loop-column.column-index past in (
      c.loop-column.invariant.values ∙ ap (values_of c.args.texts.now cells) all,
      ap (λ (l : List (RowKind × ℕ)). slice_get l 0) (ap (filter_map (fault_at cells)) (sym all) ∙ c.loop-column.invariant.whole),
    )

pub returns-clause-time : goal.returns-clause-time
returns-clause-time c =
    let columns = columns_at c.args.layout.now.plan.now c.args.layout.now.places.now in
    let cells = fields_in c.args.cells.now in
    let past : slice_get columns c.loop-column.column-index ≡ None = made_past column_of columns c.args.layout.now.columns.now c.loop-column.column-index c.args.layout.now.placed c.loop-column-test.false in
    let all = taken_all columns c.loop-column.column-index past in
    time_read c.args.layout.now.plan.now c.args.layout.now.places.now cells c.args.texts.now c.loop-column.texts c.loop-column.values (c.loop-column.invariant.values ∙ ap (values_of c.args.texts.now cells) all)
    (ap (filter_map (fault_at cells)) (sym all) ∙ c.loop-column.invariant.whole)

pub loop-column-init : goal.loop-column-init
loop-column-init c = grind (arith, common_steps)
