use Rattle.std.proofs.Common.{◌≡◌, ℕ, List, IfSome, sym, ap, subst, ◌∙◌}
use Rattle.std.specs.List.{All, slice_get}
use Rattle.std.proofs.lemmas.Option.{slice_get_cases}
use Rattle.std.proofs.lemmas.List.Elements.{All-get_or}
use Rattle.std.proofs.Common.{inl, inr}
use Rattle.sp_plan.specs.declared.plan.Element.{Element}
use Rattle.sp_match.specs.inside.Good.{IsNamed}
use Rattle.sp_match.proofs.ElementsAreNamed.{elements_named}
use Rattle.sp_match.proofs.taking.element_at.Goals as goal

-- what stands at a place is named
named_at : (es : List Element) (i : ℕ) → All IsNamed es → IfSome (slice_get es i) IsNamed
named_at es i all =
    elim (slice_get_cases es i).1 [
      | inl here ↦ subst (λ o. IfSome o IsNamed) (sym here.2) (subst IsNamed here.3 (All-get_or IsNamed es i here.0 here.1 all))
      | inr past ↦ subst (λ o. IfSome o IsNamed) (sym past.1) tt
    ]

pub returns-clause-named : goal.returns-clause-named
returns-clause-named c =
    let is : c.one_of.result ≡ slice_get c.args.plan.now.elements c.args.place = c.one_of.ensures ∙ ap (λ es. slice_get es c.args.place) c.as_slice.ensures in
    subst (λ o. IfSome o IsNamed) (sym is) (named_at c.args.plan.now.elements c.args.place (elements_named c.args.plan.now c.requires.compiled))
