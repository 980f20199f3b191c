use Rattle.sp_parts.proofs.FallingApart.{parts_lie_within}
use Rattle.sp_parts.proofs.law.parts_lie_within.Goals as goal

pub returns : goal.returns
returns c = parts_lie_within
