use Rattle.std.proofs.Common.{take, []}
use Rattle.sp_plan.specs.declared.plan.Plan.{Plan}
use Rattle.sp_returns.specs.Answers.{AreSlots}
use Rattle.sp_returns.proofs.compiling.empty_slots.Given as goal

abbrev pub invariant-loop-column : goal.invariant-loop-column
invariant-loop-column l = (from : Plan) → AreSlots from [] (take l._column-index l.columns) l.slots.items
