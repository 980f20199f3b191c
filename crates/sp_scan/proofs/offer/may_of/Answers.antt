use Rattle.sp_scan.proofs.MayHold.{all_may}
use Rattle.sp_scan.proofs.offer.may_of.Goals as goal

pub returns-else-open-as_slice : goal.returns-else-open-as_slice
returns-else-open-as_slice c = all_may c.args.plan.now c.args.event.now c.requires.compiled.names
