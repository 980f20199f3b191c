use Rattle.std.proofs.Common.{◌≡◌, false, true, ◌&&◌, not, Option, sym, ap, ◌∙◌}
use Rattle.sp_plan.specs.declared.plan.Element.{Element}
use Rattle.sp_plan.specs.Runs.{binds, is_bound, unbound}
use Rattle.sp_base.specs.Numbers.{is_among}
use Rattle.sp_match.specs.inside.Kept.{kept, pairs}
use Rattle.sp_match.proofs.TakersTell.{among_filter}
use Rattle.sp_match.proofs.taking.lacks.Goals as goal

pub returns-then-names : goal.returns-then-names
returns-then-names c =
    let r = pairs (kept c.args.run.now) in
    let own : true ≡ is_among (binds c.in-Some.element) c.args.name = sym c.if-names.true ∙ c.names.ensures in
    ap not c.has.ensures ∙ (λ i. own i && not (is_bound r c.args.name)) ∙ sym (among_filter (λ name. not (is_bound r name)) (binds c.in-Some.element) c.args.name)
    ∙ ap (λ (o : Option Element). is_among (unbound r o) c.args.name) (sym c.in-Some.is)

pub returns-else-names : goal.returns-else-names
returns-else-names c =
    let r = pairs (kept c.args.run.now) in
    let own : false ≡ is_among (binds c.in-Some.element) c.args.name = sym c.if-names.false ∙ c.names.ensures in
    c.if-names.false ∙ (λ i. own i && not (is_bound r c.args.name)) ∙ sym (among_filter (λ name. not (is_bound r name)) (binds c.in-Some.element) c.args.name)
    ∙ ap (λ (o : Option Element). is_among (unbound r o) c.args.name) (sym c.in-Some.is)
