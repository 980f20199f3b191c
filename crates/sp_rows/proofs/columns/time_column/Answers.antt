use Rattle.std.proofs.Common.{ℕ, ◌∙◌, ap, sym}
use Rattle.std.specs.List.{slice_get}
use Rattle.sp_rows.specs.Rows.{columns_at}
use Rattle.sp_rows.proofs.Times.{own_column, no_column}
use Rattle.sp_rows.proofs.columns.time_column.Goals as goal

pub returns-in-None : goal.returns-in-None
returns-in-None c = sym (no_column c.args.plan.now c.args.places.now c.in-None.is)

pub returns-in-Some : goal.returns-in-Some
returns-in-Some c =
    c.column_at.ensures ∙ ap (λ (i : ℕ). slice_get (columns_at c.args.plan.now c.args.places.now) i) c.from.ensures ∙ sym (own_column c.args.plan.now c.args.places.now c.in-Some.own c.in-Some.is)
