use Rattle.std.proofs.Common.{[], refl, sym, ◌∙◌}
use Rattle.std.proofs.lemmas.List.{append-nil}
use Rattle.sp_plan.specs.Held.{held_columns, put}
use Rattle.sp_plan.proofs.held.hold_run.Goals as goal

pub returns-clause-held : goal.returns-clause-held
returns-clause-held c = λ bounds is.
    c.in_ok-put_values.ensures.put bounds [] [] (is ∙ sym (append-nil (held_columns c.args.pred.now bounds))) refl ∙ append-nil (held_columns c.args.pred.now (put bounds c.args.run c.args.bound.now))
