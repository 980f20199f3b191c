use Rattle.std.proofs.Common.{◌≡◌, ◌+◌, ◌-◌, [], true, false, Some, sym, ap, ◌∙◌, arith}
use Rattle.std.specs.List.{find, range_with_len}
use Rattle.sp_plan.specs.Runs.{name_holds}
use Rattle.sp_match.proofs.Searches.{range_at, range_push, found_next, fails_next}
use Rattle.sp_match.proofs.offer.first_of.Goals as goal

pub returns-then-fits_first : goal.returns-then-fits_first
returns-then-fits_first c =
    let p = name_holds c.args.plan.now [] c.args.event.now in
    let first = c.span-first.result.0 in
    let past = c.span-first.result.1 in
    let i = c.loop-name.name - first in
    let e : first + i ≡ c.loop-name.name = omega arith in
    let holds : p (first + i) ≡ true = ap p e ∙ sym c.fits_first.ensures ∙ c.if-fits_first.true in
    ap Some (sym e) ∙ sym (found_next p (range_with_len first i) (range_with_len (first + i + 1) (past - first - i - 1)) (first + i) c.loop-name.invariant holds)
    ∙ sym (ap (find p) (c.span-first.ensures.names ∙ range_at first (past - first) i (omega arith)))

pub loop-name-preserved : goal.loop-name-preserved
loop-name-preserved c =
    let p = name_holds c.args.plan.now [] c.args.event.now in
    let first = c.span-first.result.0 in
    let i = c.loop-name.name - first in
    let e : first + i ≡ c.loop-name.name = omega arith in
    let f : c.loop-name.name + 1 - first ≡ i + 1 = omega arith in
    let fails : p (first + i) ≡ false = ap p e ∙ sym c.fits_first.ensures ∙ c.if-fits_first.false in
    ap (λ n. find p (range_with_len first n)) f ∙ ap (find p) (range_push first i) ∙ fails_next p (range_with_len first i) (first + i) c.loop-name.invariant fails
