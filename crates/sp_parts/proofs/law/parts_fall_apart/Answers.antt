use Rattle.sp_parts.proofs.FallingApart.{parts_fall_apart}
use Rattle.sp_parts.proofs.law.parts_fall_apart.Goals as goal

pub returns : goal.returns
returns c = parts_fall_apart
