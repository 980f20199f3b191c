use Rattle.std.proofs.Common.{refl}
use Rattle.sp_io.proofs.Grew.{within_none}
use Rattle.sp_answer.proofs.Writing.{out_of_memory}
use Rattle.sp_commands.proofs.listed.write_proofs.Goals as goal

pub returns-in_err-entries : goal.returns-in_err-entries
returns-in_err-entries g c = out_of_memory _ _ _ _ c.from_residual-in_err-entries.ensures.0 (within_none _ _) refl
