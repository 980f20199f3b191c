use Rattle.std.proofs.Common.{rules, ap}
use Rattle.sp_plan.specs.Held.{blank, saturated}
use Rattle.sp_plan.proofs.HeldSides.{alike}
use Rattle.sp_plan.proofs.held.held_value.Goals as goal

pub returns : goal.returns
returns c =
    let same = alike c.args.side.now c.args.event.now blank c.args.bound.now c.requires.held in
    let value = ap saturated same in
    search rules
