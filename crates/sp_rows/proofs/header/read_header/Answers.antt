use Rattle.std.proofs.Common.{◌≡◌, ◌∙◌, ap, sym, refl, Some, List, ℕ, true, false, ◌++◌, ◌∷◌, [], length, arith}
use Rattle.std.proofs.lemmas.Grind.{common_steps}
use Rattle.std.specs.Prelude.{is_none, Option}
use Rattle.std.specs.Option.{option_map}
use Rattle.std.specs.List.{slice_get}
use Rattle.std.proofs.lemmas.Option.{slice_get_read}
use Rattle.sp_plan.specs.declared.plan.Column.{Column}
use Rattle.sp_rows.specs.Rows.{place_of}
use Rattle.sp_rows.specs.Shapes.{fields_in}
use Rattle.sp_rows.proofs.Walks.{find_more, find_here, gives_more}
use Rattle.sp_rows.proofs.header.read_header.Goals as goal

pub returns-in-None : goal.returns-in-None
returns-in-None c =
    let cells = fields_in c.args.cells.now in
    let columns = c.args.columns.now in
    let i = c.loop-column.column-index in
    let column = c.column-item.result in
    let is : slice_get columns i ≡ Some column = slice_get_read columns (length columns) i column refl c.loop-column-test.true c.column-item.is in
    let lacks : is_none (place_of cells column) ≡ true = ap (λ (o : Option ℕ). is_none o) (sym c.place_of.ensures ∙ c.in-None.is) in
    ap (option_map (λ (column : Column). column.name)) (find_here (λ (column : Column). is_none (place_of cells column)) columns i column c.loop-column.invariant.there is lacks)
    ∙ ap (λ (name : List ℕ). Some name) (sym c.in_ok-copy_of-in-None.ensures)

pub loop-column-preserved : goal.loop-column-preserved
loop-column-preserved c =
    let cells = fields_in c.args.cells.now in
    let columns = c.args.columns.now in
    let i = c.loop-column.column-index in
    let column = c.column-item.result in
    let is : slice_get columns i ≡ Some column = slice_get_read columns (length columns) i column refl c.loop-column-test.true c.column-item.is in
    let has : place_of cells column ≡ Some c.in-Some.place = sym c.place_of.ensures ∙ c.in-Some.is in
    let not_lacking : is_none (place_of cells column) ≡ false = ap (λ (o : Option ℕ). is_none o) has in
    record {
      there = find_more (λ (column : Column). is_none (place_of cells column)) columns i column c.loop-column.invariant.there is not_lacking;
      places =
          c.in_ok-push-in-Some.ensures.items
          ∙ ap (λ (l : List ℕ). l ++ c.in-Some.place ∷ []) c.loop-column.invariant.places
          ∙ sym (gives_more (place_of cells) columns i column c.in-Some.place is has);
    }

pub returns : goal.returns
returns c = grind (arith, common_steps)
