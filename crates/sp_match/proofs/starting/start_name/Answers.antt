use Rattle.std.proofs.Common.{[], None, sym, ap, ◌∙◌}
use Rattle.std.specs.Prelude.{Bool, if◌then◌else◌}
use Rattle.sp_plan.specs.Windows.{Numbered}
use Rattle.sp_plan.specs.Runs.{takes}
use Rattle.sp_match.proofs.starting.start_name.Goals as goal

pub returns-then-may : goal.returns-then-may
returns-then-may c = λ s old ts is long going.
    let q = c.args.offer.now.plan.now in
    let x : Numbered = (c.args.offer.now.number, c.args.offer.now.event.now) in
    c.begins.ensures ∙ ap (λ (b : Bool). if b then takes q [] c.args.offer.now.event.now else None) (sym c.if-may.true ∙ c.may_start-may.ensures x s old ts is long going)

pub returns-else-may : goal.returns-else-may
returns-else-may c = λ s old ts is long going.
    let q = c.args.offer.now.plan.now in
    let x : Numbered = (c.args.offer.now.number, c.args.offer.now.event.now) in
    ap (λ (b : Bool). if b then takes q [] c.args.offer.now.event.now else None) (sym c.if-may.false ∙ c.may_start-may.ensures x s old ts is long going)
