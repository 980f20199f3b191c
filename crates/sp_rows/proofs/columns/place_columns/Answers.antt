use Rattle.std.proofs.Common.{[], ◌∷◌, ◌++◌, map, sym, ◌∙◌, ap, List}
use Rattle.std.proofs.lemmas.List.{map-append}
use Rattle.sp_rows.specs.Rows.{ColumnAt, columns_at}
use Rattle.sp_rows.specs.Shapes.{column_of}
use Rattle.sp_rows.specs.declared.columns.Placed.{Placed}
use Rattle.sp_rows.proofs.PlacedColumns.{places_end}
use Rattle.sp_rows.proofs.Walks.{next_taken, taken_all}
use Rattle.sp_rows.proofs.columns.place_columns.Goals as goal

pub loop-number-preserved : goal.loop-number-preserved
loop-number-preserved c =
    let all = columns_at c.args.plan.now c.args.places.now in
    let column = c.in-Some.column in
    ap (λ (l : List Placed). map column_of l) c.in_ok-push-in-Some.ensures.items
    ∙ map-append column_of c.loop-number.columns.items (column ∷ [])
    ∙ ap (λ (l : List ColumnAt). l ++ column_of column ∷ []) c.loop-number.invariant
    ∙ sym (next_taken all c.loop-number.number (column_of column) (sym c.in-Some.ensures))

pub returns : goal.returns
returns c =
    let all = columns_at c.args.plan.now c.args.places.now in
    c.loop-number.invariant ∙ taken_all all c.loop-number.number (places_end c.args.plan.now c.args.places.now c.loop-number.number c.loop-number-test.false)
