use Rattle.std.proofs.Common.{arith, append_assoc}
use Rattle.std.proofs.lemmas.Grind.{common_steps}
use Rattle.sp_emit.proofs.summary.summary_text.Goals as goal

pub returns : goal.returns
returns c = simp append_assoc (grind (arith, common_steps))
