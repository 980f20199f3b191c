use Rattle.std.proofs.Common.{Ok, List, ◌++◌, ◌∷◌, [], sym, ◌∙◌, ap, subst, append_assoc}
use Rattle.sp_plan.specs.declared.event.Event.{Event}
use Rattle.sp_slack.specs.Standing.{kept_of}
use Rattle.sp_commands.proofs.Holding.{Holds, holds_more}
use Rattle.sp_commands.proofs.sorted.hold.Goals as goal

pub loop-event-preserved : goal.loop-event-preserved
loop-event-preserved c =
    let slack = c.args.held.now.slack in
    let so_far = c.loop-event.yielded in
    let e = c.in-Some.event in
    let rest = c.next.new.self.rest.items in
    let steps = c.in-Some.ensures.steps.0 in
    let holds = subst (λ (l : List Event). Holds slack (kept_of c.loop-event.held) so_far l) steps c.loop-event.invariant.1 in
    let offer = c.in_ok-offer.ensures in (
      append_assoc so_far (e ∷ []) rest ∙ ap (λ (l : List Event). so_far ++ l) (sym steps) ∙ c.loop-event.invariant.0,
      holds_more slack (kept_of c.loop-event.held) (kept_of c.offer.new.self) so_far e rest holds c.in_ok-offer.field-0
          (λ is. offer.kept so_far 0 holds.stands (ap Ok is))
          (λ now end is. (offer.late so_far 0 holds.stands now end (ap Ok is)).0)
          offer.offered offer.slack offer.goes_on,
    )
