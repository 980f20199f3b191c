use Rattle.std.proofs.Common.{◌≡◌, ◌-◌, ◌∙◌, List, length, take, drop, ap, sym, subst, arith}
use Rattle.std.specs.Arc.{arc_value}
use Rattle.sp_plan.specs.Windows.{Window, windows}
use Rattle.sp_plan.specs.declared.plan.Plan.{Plan}
use Rattle.sp_parts.specs.declared.part.Part as kept
use Rattle.sp_parts.specs.Parts.{part_of}
use Rattle.sp_parts.specs.Stretches.{IsStretch, windows_of}
use Rattle.sp_parts.proofs.Gathering.{Gathered, gathered_none, gathered_more, gathered_all}
use Rattle.sp_parts.proofs.part.parts.Goals as goal

pub loop-begin-init : goal.loop-begin-init
loop-begin-init c =
    subst (λ (l : List kept.Part). Gathered (arc_value c.args.plan) c.args.events.now c.args.ended l 0) (sym c.new-parts.ensures.items) (gathered_none (arc_value c.args.plan) c.args.events.now c.args.ended)

pub loop-begin-preserved : goal.loop-begin-preserved
loop-begin-preserved c =
    let q = arc_value c.args.plan in
    let events = c.args.events.now in
    let w = c.in_ok-windows.windows in
    let same : windows_of w events ≡ windows q events c.args.ended = λ i. windows (c.in_ok-windows.ensures.plan i) events (c.in_ok-windows.ensures.ended i) in
    let begin = c.loop-begin.begin in
    let end = c.stretch_end-end.result in
    let stretch = subst (λ (ws : List Window). IsStretch ws begin end) same c.stretch_end-end.ensures in
    let part = c.in_ok-part_at.ensures ∙ ap (λ (ws : List Window). part_of events begin (take (end - begin) (drop begin ws))) same in
    subst (λ (l : List kept.Part). Gathered q events c.args.ended l end) (sym {A = List kept.Part} c.in_ok-push.ensures.items)
    (gathered_more q events c.args.ended c.loop-begin.parts.items begin end c.in_ok-part_at.field-0 c.loop-begin.invariant stretch part)

pub returns : goal.returns
returns c =
    let q = arc_value c.args.plan in
    let events = c.args.events.now in
    let count = c.count-count.ensures events c.args.ended c.in_ok-windows.ensures.stands ∙ ap (λ (p : Plan). length (windows p events c.args.ended)) c.in_ok-windows.ensures.plan in
    gathered_all q events c.args.ended c.loop-begin.parts.items c.loop-begin.begin c.loop-begin.invariant (omega (arith, count))
