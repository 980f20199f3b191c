use Rattle.std.proofs.Common.{◌≡◌, sym, ap, subst, ◌∙◌}
use Rattle.std.specs.Prelude.{IsTrue}
use Rattle.std.specs.Arc.{arc_value}
use Rattle.sp_plan.specs.Same.{SamePlan}
use Rattle.sp_match.specs.public.Matching.{Matching}
use Rattle.sp_match.proofs.matcher.Matcher.same.Goals as goal

pub returns-clause-shared : goal.returns-clause-shared
returns-clause-shared c = λ shared.
    let plan : arc_value c.self.inside.plan ≡ arc_value c.other.inside.plan = ap (λ (m : Matching). m.plan) c.self.view_is ∙ shared ∙ sym (ap (λ (m : Matching). m.plan) c.other.view_is) in
    let lent : c.deref.result.now ≡ c.deref-2.result.now = c.deref.ensures ∙ plan ∙ sym c.deref-2.ensures in
    let is : IsTrue c.same_runs.result = c.if-not-same_runs.false in (
      λ t. (c.same_runs.ensures.shared shared).0 is,
      λ e. c.same.ensures.1 (subst (SamePlan c.deref.result.now) lent (c.plans_are_themselves.ensures c.deref.result.now)),
    )
