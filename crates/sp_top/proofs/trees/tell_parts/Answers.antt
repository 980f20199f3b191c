use Rattle.std.proofs.Common.{refl}
use Rattle.sp_io.proofs.Grew.{within_none}
use Rattle.sp_answer.proofs.Writing.{out_of_memory}
use Rattle.sp_top.proofs.trees.tell_parts.Goals as goal

pub returns-in_err-matches : goal.returns-in_err-matches
returns-in_err-matches g c = out_of_memory _ _ _ _ c.from_residual-in_err-matches.ensures.0 (within_none _ _) refl

pub returns-in_err-clone : goal.returns-in_err-clone
returns-in_err-clone g c = out_of_memory _ _ _ _ c.from_residual-in_err-clone.ensures.0 (within_none _ _) refl
