use Rattle.std.proofs.Common.{◌≡◌, ◌-◌, ◌≤ℤ◌, true, List, length, Some, refl, rules, subst}
use Rattle.std.specs.Prelude.{slice_get}
use Rattle.sp_plan.specs.declared.event.Event.{Event}
use Rattle.sp_plan.specs.declared.plan.Plan.{Plan}
use Rattle.sp_plan.specs.Events.{fits}
use Rattle.sp_plan.specs.WindowNumbers.{Good}
use Rattle.sp_calls.proofs.Ordered.{good_next}
use Rattle.sp_calls.proofs.stepping.feed_next.Goals as goal

pub feed-requires : goal.feed-requires
feed-requires c =
    let core = c.args.core.now in
    let events = core.machine.events in
    let good : Good core.plan events = subst (λ (q : Plan). Good q events) c.windows.ensures.plan c.windows.ensures.stands.good in
    let fit : fits core.plan c.args.event ≡ true = search rules in
    let last : (x : Event) → slice_get events (length events - 1) ≡ Some x → x.time ≤ℤ c.args.event.time =
    subst (λ (es : List Event). (x : Event) → slice_get es (length es - 1) ≡ Some x → x.time ≤ℤ c.args.event.time) c.events.ensures (c.if-not-goes_on.ensures refl) in
    record { good = good_next core.plan events c.args.event good fit last }
