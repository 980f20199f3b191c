use Rattle.std.proofs.Common.{Bool, ◌&&◌, ap, ◌∙◌}
use Rattle.sp_plan.specs.Masks.{has}
use Rattle.sp_plan.proofs.MaskBits.{has-and}
use Rattle.sp_plan.proofs.runs.tested.Goals as goal

pub returns-in-Some-clause-holds : goal.returns-in-Some-clause-holds
returns-in-Some-clause-holds g c = λ run within.
    has-and c.args.asked c.in-Some.mask run ∙ ap (λ (t : Bool). has c.args.asked run && t) (c.in-Some.ensures run within)
