use Rattle.std.proofs.Common.{sym, ◌∙◌}
use Rattle.std.proofs.lemmas.Bool.{eqb-true}
use Rattle.sp_piece.proofs.Quiet.{nothing_told, nothing_wanted}
use Rattle.sp_piece.proofs.going.add_wanted.Goals as goal

pub returns-then-is_empty-clause-ok : goal.returns-then-is_empty-clause-ok
returns-then-is_empty-clause-ok c =
    nothing_wanted c.args.wants c.open_runs.result.now c.args.led.now c.args.telling.now.entries c.args.times c.open_runs.ensures
    (eqb-true _ _ (sym c.is_empty.ensures ∙ c.if-is_empty.true))

pub returns-then-not-wants-clause-ok : goal.returns-then-not-wants-clause-ok
returns-then-not-wants-clause-ok c = nothing_told c.args.wants c.args.led.now c.args.telling.now.entries c.args.times c.if-not-wants.true
