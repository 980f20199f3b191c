use Rattle.std.proofs.Common.{◌+◌, sym, ap, ◌∙◌, arith}
use Rattle.sp_match.proofs.GuardsAreNumbered.{led, leading_few, none_led}
use Rattle.sp_match.proofs.taking.leading.Goals as goal

pub overflow_add-result : goal.overflow_add-result
overflow_add-result c = omega (arith, c.in-Some.ensures.few, c.negated_front.ensures, leading_few c.args.elements.now, c.requires.few)

pub returns-in-Some : goal.returns-in-Some
returns-in-Some c = ap (λ n. (c.in-Some.name, c.in-Some.name + n)) c.negated_front.ensures ∙ led c.args.elements.now c.in-Some.name (sym c.first_negated.ensures.name ∙ c.in-Some.is)

pub returns-in-None : goal.returns-in-None
returns-in-None c = none_led c.args.elements.now (sym c.first_negated.ensures.name ∙ c.in-None.is)
