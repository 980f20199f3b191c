use Rattle.sp_plan.proofs.MaskBits.{cleared_other, cleared_same}
use Rattle.sp_plan.proofs.masks.without_bit.Goals as goal

pub returns-clause-same : goal.returns-clause-same
returns-clause-same c = cleared_same c.args.mask c.args.run c.requires

pub returns-clause-others : goal.returns-clause-others
returns-clause-others c = λ other few apart. cleared_other c.args.mask c.args.run other c.requires few apart
