use Rattle.sp_sched.proofs.Reading.{sets_out, goes, arrives}
use Rattle.sp_sched.proofs.Standing.{all_stand}
use Rattle.sp_sched.proofs.read.read_schedule.Goals as goal

pub lines-init : goal.lines-init
lines-init c = sets_out _ _ c.new-steps.ensures.items

pub lines-preserved : goal.lines-preserved
lines-preserved c = goes _ _ _ _ c.lines.invariant _ _ c.in-Some.ensures _ c.in_ok-take_line.ensures.taken

pub returns-clause-steps : goal.returns-clause-steps
returns-clause-steps c = arrives _ _ _ _ c.lines.invariant c.in_default.ensures _ c.in_ok-take_line-2.ensures.taken

pub returns-clause-stand : goal.returns-clause-stand
returns-clause-stand c = all_stand _ _ (arrives _ _ _ _ c.lines.invariant c.in_default.ensures _ c.in_ok-take_line-2.ensures.taken)
