use Rattle.std.proofs.Common.{◌∙◌}
use Rattle.std.proofs.lemmas.Result.{IfOk-weaker}
use Rattle.sp_plan.specs.Held.{held_columns}
use Rattle.sp_match.proofs.RunsAreHeld.{bound_of, bound_small}
use Rattle.sp_match.proofs.holdings.columns.Goals as goal

pub hold_columns-requires-clause-bound : goal.hold_columns-requires-clause-bound
hold_columns-requires-clause-bound c = bound_small c.args.plan.now c.args.runs.now c.requires.good

pub returns : goal.returns
returns c =
    IfOk-weaker c.hold_columns.result _ _ (λ columns are. are ∙ λ i. held_columns c.args.pred.now (bound_of c.args.plan.now c.args.runs.now c.requires.good i)) c.hold_columns.ensures
