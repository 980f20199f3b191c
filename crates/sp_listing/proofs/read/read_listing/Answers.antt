use Rattle.sp_listing.proofs.Alone.{one_listing}
use Rattle.sp_listing.proofs.Going.{goes, arrives, whole_text}
use Rattle.sp_listing.proofs.read.read_listing.Goals as goal

pub lines-preserved : goal.lines-preserved
lines-preserved c = goes _ _ _ _ _ c.lines.invariant _ _ c.in-Some.ensures _ c.in_ok-take_line.ensures.taken

pub returns-clause-text : goal.returns-clause-text
returns-clause-text c = whole_text _ _ _ (arrives _ _ _ _ _ c.lines.invariant c.in_default.ensures)

pub returns-clause-only : goal.returns-clause-only
returns-clause-only c = λ others is. one_listing.entries _ _ others _ is (arrives _ _ _ _ _ c.lines.invariant c.in_default.ensures)
