use Rattle.std.proofs.Common.{map, ◌&&◌, sym, ap, ◌∙◌}
use Rattle.std.proofs.lemmas.Bool.{and_parts}
use Rattle.sp_plan.specs.Masks.{has, outcome}
use Rattle.sp_plan.proofs.Holdings.{held_from_first}
use Rattle.sp_plan.proofs.MaskBits.{asked_twice, has-and}
use Rattle.sp_plan.proofs.runs.holding.Goals as goal

pub walk-mask-requires-clause-held : goal.walk-mask-requires-clause-held
walk-mask-requires-clause-held g c = held_from_first c.args.pred.now c.args.columns.now (map g.R.Binds.binds c.args.runs.now) c.requires.held

pub returns-in-Test-clause-holds : goal.returns-in-Test-clause-holds
returns-in-Test-clause-holds g c =
    let bounds = map g.R.Binds.binds c.args.runs.now in λ run within.
    has-and c.args.asked c.tested-mask.result.0 run ∙ asked_twice _ _ _ (c.tested-mask.ensures.holds run within)
    ∙ ap (λ p. has c.args.asked run && outcome p c.args.event.now bounds run) (sym c.in-Test.is)

pub returns-in-Test-clause-asked : goal.returns-in-Test-clause-asked
returns-in-Test-clause-asked g c = λ run within is.
    (and_parts (has c.args.asked run) (has c.tested-mask.result.0 run) (sym (has-and c.args.asked c.tested-mask.result.0 run) ∙ is)).0

pub returns-clause-holds : goal.returns-clause-holds
returns-clause-holds g c = λ run within.
    has-and c.args.asked c.walk-mask.result.0 run ∙ asked_twice _ _ _ (c.walk-mask.ensures.holds run within)

pub returns-clause-asked : goal.returns-clause-asked
returns-clause-asked g c = λ run within is.
    (and_parts (has c.args.asked run) (has c.walk-mask.result.0 run) (sym (has-and c.args.asked c.walk-mask.result.0 run) ∙ is)).0
