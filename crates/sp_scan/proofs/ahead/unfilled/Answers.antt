use Rattle.std.proofs.Common.{◌≡◌, true, false, not, sym, ap, ◌∙◌}
use Rattle.std.specs.List.{find}
use Rattle.sp_plan.specs.declared.plan.Element.TheVariants.{One}
use Rattle.sp_plan.specs.Runs.{is_filled}
use Rattle.std.proofs.Common.{get_or}
use Rattle.sp_scan.proofs.NamedElements.{named_at}
use Rattle.sp_scan.proofs.Searching.{found_more, found_here}
use Rattle.sp_scan.proofs.ahead.unfilled.Goals as goal

pub is_filled-requires : goal.is_filled-requires
is_filled-requires c = named_at c.args.plan.now c.as_slice-element-items.result.now c.loop-element.element-index (One 0) c.requires c.as_slice-element-items.ensures c.loop-element-test.true

pub loop-element-preserved : goal.loop-element-preserved
loop-element-preserved c =
    let r = c.args.pairs.now in
    let elements = c.as_slice-element-items.result.now in
    let i = c.loop-element.element-index in
    let fails : not (is_filled r (get_or elements i (One 0))) ≡ false = ap not (sym c.is_filled.ensures ∙ c.if-not-is_filled.false) in
    found_more (λ element. not (is_filled r element)) elements i (One 0) c.loop-element-test.true c.loop-element.invariant fails

pub returns-then-not-is_filled : goal.returns-then-not-is_filled
returns-then-not-is_filled c =
    let r = c.args.pairs.now in
    let elements = c.as_slice-element-items.result.now in
    let i = c.loop-element.element-index in
    let holds : not (is_filled r (get_or elements i (One 0))) ≡ true = ap not (sym c.is_filled.ensures ∙ c.if-not-is_filled.true) in
    sym (ap (find (λ element. not (is_filled r element))) (sym c.as_slice-element-items.ensures) ∙ found_here (λ element. not (is_filled r element)) elements i (One 0) c.loop-element-test.true c.loop-element.invariant holds)
