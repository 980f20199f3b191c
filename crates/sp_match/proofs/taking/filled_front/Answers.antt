use Rattle.std.proofs.Common.{◌≡◌, ◌≤◌, true, false, not, length, get_or, None, sym, ap, subst, ◌∙◌, rules, arith}
use Rattle.std.specs.List.{All, find, slice_get}
use Rattle.std.proofs.lemmas.List.{take_all}
use Rattle.std.proofs.lemmas.List.Elements.{All-get_or}
use Rattle.std.proofs.lemmas.Option.{slice_get-get_or, slice_get_past}
use Rattle.sp_plan.specs.declared.plan.Element.TheVariants.{One}
use Rattle.sp_plan.specs.Runs.{is_filled}
use Rattle.sp_match.specs.inside.Kept.{kept, pairs}
use Rattle.sp_match.specs.inside.Good.{IsNamed}
use Rattle.sp_match.proofs.Searches.{found_more, found_here}
use Rattle.sp_match.proofs.ElementsAreNamed.{elements_named}
use Rattle.sp_match.proofs.taking.filled_front.Goals as goal

pub is_filled-requires-clause-named : goal.is_filled-requires-clause-named
is_filled-requires-clause-named c =
    let all : All IsNamed c.as_slice-elements.result.now = subst (All IsNamed) (sym c.as_slice-elements.ensures) (elements_named c.args.plan.now c.requires.compiled) in
    All-get_or IsNamed c.as_slice-elements.result.now c.loop-i.i (One 0) c.loop-i-test.true all

pub loop-i-preserved : goal.loop-i-preserved
loop-i-preserved c =
    let r = pairs (kept c.args.run.now) in
    let elements = c.as_slice-elements.result.now in
    let element = get_or elements c.loop-i.i (One 0) in
    let same : get_or elements c.loop-i.i element ≡ element = search rules in
    let fails : not (is_filled r (get_or elements c.loop-i.i element)) ≡ false = ap (λ e. not (is_filled r e)) same ∙ ap not (sym c.is_filled.ensures ∙ c.if-not-is_filled.false) in
    found_more (λ element. not (is_filled r element)) elements c.loop-i.i element c.loop-i.invariant c.loop-i-test.true fails

pub returns-then-not-is_filled : goal.returns-then-not-is_filled
returns-then-not-is_filled c =
    let r = pairs (kept c.args.run.now) in
    let elements = c.as_slice-elements.result.now in
    let element = get_or elements c.loop-i.i (One 0) in
    let same : element ≡ get_or elements c.loop-i.i element = search rules in
    let holds : not (is_filled r element) ≡ true = ap not (sym c.is_filled.ensures ∙ c.if-not-is_filled.true) in
    ap (λ es. find (λ element. not (is_filled r element)) es) (sym c.as_slice-elements.ensures)
    ∙ found_here (λ element. not (is_filled r element)) elements c.loop-i.i element c.loop-i.invariant c.loop-i-test.true same holds
    ∙ sym (slice_get-get_or elements c.loop-i.i (One 0) c.loop-i-test.true) ∙ ap (λ es. slice_get es c.loop-i.i) c.as_slice-elements.ensures

pub returns : goal.returns
returns c =
    let r = pairs (kept c.args.run.now) in
    let elements = c.as_slice-elements.result.now in
    let past : length elements ≤ c.loop-i.i = omega (arith, c.loop-i-test.false) in
    let none : find (λ element. not (is_filled r element)) elements ≡ None = ap (find (λ element. not (is_filled r element))) (sym (take_all c.loop-i.i elements past)) ∙ c.loop-i.invariant in
    let same : length c.args.plan.now.elements ≡ length elements = ap length (sym c.as_slice-elements.ensures) in
    ap (find (λ element. not (is_filled r element))) (sym c.as_slice-elements.ensures) ∙ none ∙ sym (slice_get_past c.args.plan.now.elements _ (omega (arith, same)))
