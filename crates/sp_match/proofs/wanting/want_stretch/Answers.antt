use Rattle.std.proofs.Common.{sym, subst}
use Rattle.sp_match.specs.declared.run.Run.{Run}
use Rattle.sp_match.specs.inside.Kept.{kept}
use Rattle.sp_match.specs.inside.Good.{Good}
use Rattle.sp_match.proofs.RunsUndo.{good_here}
use Rattle.sp_match.proofs.wanting.want_stretch.Goals as goal

pub left_beside-left-requires-clause-good : goal.left_beside-left-requires-clause-good
left_beside-left-requires-clause-good c =
    subst (λ (r : Run). Good c.args.plan.now (kept r)) (sym c.run-item.is) (good_here c.args.plan.now c.args.runs.now c.loop-run.run-index c.run-item.result c.loop-run-test.true c.requires.good)
