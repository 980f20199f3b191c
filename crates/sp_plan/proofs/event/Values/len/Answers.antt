use Rattle.std.proofs.Common.{length, ◌∙◌, ap}
use Rattle.sp_plan.proofs.Parts.{len_in}
use Rattle.sp_plan.proofs.event.Values.len.Goals as goal

pub returns-in-Few : goal.returns-in-Few
returns-in-Few c = len_in _ c.in-Few.is c.self.invariant ∙ ap length c.self.view_is
