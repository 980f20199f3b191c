use Rattle.std.proofs.Common.{◌≡◌, ℕ, ◌+◌, ◌++◌, ◌∷◌, [], ◌∙◌, ap, drop, arith}
use Rattle.sp_plan.specs.declared.plan.Element.{Element}
use Rattle.sp_compile.specs.Stands.{plan_element, plan_elements}
use Rattle.sp_compile.proofs.Placed.{more_planned, fewer_names}
use Rattle.sp_compile.proofs.elements.plan_elements.Goals as goal

pub plan_element-requires : goal.plan_element-requires
plan_element-requires c =
    let fewer = fewer_names c.args.elements.now c.loop-element.element-index c.element-item.result c.loop-element-test.true c.element-item.is in
    omega arith

pub loop-element-preserved : goal.loop-element-preserved
loop-element-preserved c =
    let elements = c.args.elements.now in
    let i = c.loop-element.element-index in
    let element = c.element-item.result in
    let first = c.loop-element.first in
    let so_far = c.loop-element.planned.items in
    let pushed : c.push.new.self.items ≡ so_far ++ plan_element first element ∷ [] = c.in_ok-push.ensures.items ∙ ap (λ (e : Element). so_far ++ e ∷ []) c.plan_element.ensures in
    let grown = more_planned elements i element c.loop-element-test.true c.element-item.is first so_far c.push.new.self.items (plan_elements 0 elements) c.loop-element.invariant.planned pushed in
    let fewer = fewer_names elements i element c.loop-element-test.true c.element-item.is in
    record {
      planned = ap (λ (n : ℕ). c.push.new.self.items ++ plan_elements (first + n) (drop (i + 1) elements)) c.width-first.ensures ∙ grown;
      names = omega (arith, c.width-first.ensures, c.loop-element.invariant.names);
    }
