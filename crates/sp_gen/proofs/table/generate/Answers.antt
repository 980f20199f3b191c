use Rattle.sp_gen.proofs.Growing.{goes_on}
use Rattle.sp_gen.proofs.table.generate.Goals as goal

pub loop-before-preserved : goal.loop-before-preserved
loop-before-preserved c = goes_on _ _ _ _ _ _ c.loop-before.invariant c.next_drawn-drawn.ensures c.in_ok-push_row.ensures
