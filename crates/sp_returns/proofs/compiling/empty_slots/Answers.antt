use Rattle.std.proofs.Common.{◌+◌, List, [], Option, take, sym, subst}
use Rattle.sp_plan.specs.declared.plan.Expr.{Expr}
use Rattle.sp_returns.specs.Answers.{AreSlots}
use Rattle.sp_returns.proofs.Slots.{empty_more}
use Rattle.sp_returns.proofs.compiling.empty_slots.Goals as goal

pub loop-column-preserved : goal.loop-column-preserved
loop-column-preserved c from =
    subst (λ (l : List (Option Expr)). AreSlots from [] (take (c.loop-column._column-index + 1) c.args.columns.now) l) (sym c.in_ok-push.ensures.items)
    (empty_more c.args.columns.now c.loop-column._column-index c.loop-column.slots.items c.loop-column-test.true c.loop-column.invariant from)
