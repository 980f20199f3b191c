use Rattle.std.proofs.Common.{◌≡◌, false, true, map, sym, ap, subst, ◌∙◌}
use Rattle.std.specs.Arc.{arc_value}
use Rattle.sp_plan.specs.declared.plan.Plan.{Plan}
use Rattle.sp_plan.specs.Compiled.{IsCompiled}
use Rattle.sp_plan.specs.Same.{SamePlan}
use Rattle.sp_match.specs.public.Matching.{Matching}
use Rattle.sp_match.specs.inside.Kept.{kept}
use Rattle.sp_match.specs.inside.Keeping.{IsKept}
use Rattle.sp_match.proofs.RunsUnderAlike.{kept_alike}
use Rattle.sp_match.proofs.matcher.Matcher.copy_under.Goals as goal

pub invariant_of-result : goal.invariant_of-result
invariant_of-result c =
    let plan_of : Matching → Plan = λ m. m.plan in
    let mine = arc_value c.self.inside.plan in
    let new = arc_value c.in_ok-try_clone.field-0 in
    let count = c.self.inside.count in
    let shared : c.args.host.now.plan ≡ new = sym (c.in_ok-try_clone.ensures ∙ ap plan_of c.host.view_is) in
    let alike : SamePlan mine new = subst (SamePlan mine) shared (subst (λ (q : Plan). SamePlan q c.args.host.now.plan) (sym (ap plan_of c.self.view_is)) c.requires) in
    let compiled = subst IsCompiled (sym c.in_ok-try_clone.ensures) c.host.invariant.0.compiled in
    let runs : map kept c.self.inside.runs.items ≡ map kept c.in_ok-copies.field-0.items = sym (c.in_ok-copies.ensures ∙ ap (map kept) c.deref.ensures.value) in
    let own = kept_alike mine new alike count (map kept c.self.inside.runs.items) compiled c.self.invariant.0 in (
      subst (IsKept new count) runs own,
      λ fresh. absurd (let f : false ≡ true = sym c.new-3.ensures ∙ fresh in cc),
      λ fresh. absurd (let f : false ≡ true = sym c.new.ensures ∙ fresh in cc),
    )
