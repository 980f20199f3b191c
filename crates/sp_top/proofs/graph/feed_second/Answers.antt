use Rattle.std.proofs.Common.{subst, sym, ◌∙◌}
use Rattle.std.specs.Prelude.{map, string_bytes}
use Rattle.std.specs.Arc.{arc_value}
use Rattle.std.specs.List.{All}
use Rattle.sp_plan.specs.Bounds.{IsSmall}
use Rattle.sp_plan.specs.Events.{AllFit}
use Rattle.sp_plan.specs.declared.plan.Plan.{Plan}
use Rattle.sp_graph.specs.Answers.{events_in, IsDerived}
use Rattle.sp_graph.specs.Derived.{Deriving, derived}
use Rattle.sp_top.proofs.Feeding.{all_small, fed_good}
use Rattle.sp_top.proofs.graph.feed_second.Goals as goal

pub derive-requires-clause-small : goal.derive-requires-clause-small
derive-requires-clause-small g c = subst (All IsSmall) (sym (c.events.ensures ∙ c.in_ok-core.ensures.given)) (all_small c.fitting_events_are_small.ensures _ _ c.requires.good)

pub returns-clause-given : goal.returns-clause-given
returns-clause-given g c =
    let over = c.in_ok-core.ensures in
    c.second_given-given.ensures _
    (subst (λ (d : Deriving). IsDerived d c.in_ok-derived.derived)
    (λ i. derived (c.deref.ensures.value i) ((c.events.ensures ∙ over.given) i) (map string_bytes (c.deref-2.ensures.value i)) (c.deref-3.ensures i) ((c.emitted.ensures.matches ∙ over.found) i))
    c.in_ok-derived.ensures.derived)

pub returns-clause-good : goal.returns-clause-good
returns-clause-good g c =
    let answer = c.in_ok-derived in
    let d = derived c.deref.result.now c.events.result.now (map string_bytes c.deref-2.result.now) c.deref-3.result.now c.emitted.result.now in
    fed_good (arc_value c.args.link.now.second) c.args.named.stop answer.derived c.second_given-given.result d answer.ensures.derived c.second_given-given.ensures
    (subst (λ (q : Plan). AllFit q (events_in answer.derived)) c.deref-3.ensures answer.ensures.fit) answer.ensures.count answer.ensures.order
