use Rattle.sp_plan.proofs.MaskBits.{set_other, set_same}
use Rattle.sp_plan.proofs.masks.with_bit.Goals as goal

pub returns-clause-same : goal.returns-clause-same
returns-clause-same c = rw c.from.ensures (set_same c.args.mask c.args.run c.args.is c.requires)

pub returns-clause-others : goal.returns-clause-others
returns-clause-others c = λ other apart. rw c.from.ensures (set_other c.args.mask c.args.run c.args.is other c.requires apart)
