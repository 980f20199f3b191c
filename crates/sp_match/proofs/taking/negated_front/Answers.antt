use Rattle.std.proofs.Common.{◌+◌, ◌≤◌, true, false, drop, get_or, length, sym, ap, ◌∙◌, arith}
use Rattle.std.proofs.lemmas.List.{drop_all, drop_more}
use Rattle.sp_plan.specs.declared.plan.Element.TheVariants.{One}
use Rattle.sp_plan.specs.Runs.{leading}
use Rattle.sp_match.proofs.GuardsAreNumbered.{front_more}
use Rattle.sp_match.proofs.taking.negated_front.Goals as goal

pub loop-i-preserved : goal.loop-i-preserved
loop-i-preserved c =
    let es = c.args.elements.now in
    let i = c.loop-i.i in
    let element = get_or es i (One 0) in
    let at = ap (λ l. length (leading l)) (drop_more es i (One 0) c.loop-i-test.true) in
    let more = front_more element (drop (i + 1) es) true (sym c.is_negated.ensures ∙ c.if-not-is_negated.false) in
    omega (arith, c.loop-i.invariant, at, more)

pub returns-then-not-is_negated : goal.returns-then-not-is_negated
returns-then-not-is_negated c =
    let es = c.args.elements.now in
    let i = c.loop-i.i in
    let element = get_or es i (One 0) in
    let at = ap (λ l. length (leading l)) (drop_more es i (One 0) c.loop-i-test.true) in
    let none = front_more element (drop (i + 1) es) false (sym c.is_negated.ensures ∙ c.if-not-is_negated.true) in
    omega (arith, c.loop-i.invariant, at, none)

pub returns : goal.returns
returns c =
    let es = c.args.elements.now in
    let past : length es ≤ c.loop-i.i = omega (arith, c.loop-i-test.false) in
    let none = ap (λ l. length (leading l)) (drop_all c.loop-i.i es past) in
    omega (arith, c.loop-i.invariant, none)
