use Rattle.sp_listing.proofs.Cutting.{found_line, last_line}
use Rattle.sp_listing.proofs.line.first_line.Goals as goal

pub returns-in-Some : goal.returns-in-Some
returns-in-Some c = found_line _ _ c.in-Some.ensures _ _ c.split_at.ensures.front c.split_at.ensures.back

pub returns-in-None : goal.returns-in-None
returns-in-None c = last_line _ _ _ c.if-is_empty.ensures c.in-None.ensures c.split_at-in-None.ensures.front c.split_at-in-None.ensures.back
