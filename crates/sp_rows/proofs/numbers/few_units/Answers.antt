use Rattle.std.proofs.Common.{◌≡◌, ◌<◌, ◌==◌, true, length, drop, arith, rules}
use Rattle.std.specs.Prelude.{nat_lt}
use Rattle.std.specs.List.{list_all}
use Rattle.std.proofs.lemmas.Bool.Decides.{nat_tests}
use Rattle.std.proofs.lemmas.List.{take_all}
use Rattle.sp_rows.proofs.Points.{digits_front}
use Rattle.sp_rows.proofs.PlainDecimals.{whole_units, point_units}
use Rattle.sp_rows.proofs.numbers.few_units.Goals as goal

pub returns-then-count-cell-clause-value : goal.returns-then-count-cell-clause-value
returns-then-count-cell-clause-value c =
    let cell = c.args.cell.now in
    let count = c.leading-whole.result.1 in
    let found = c.leading-whole.ensures in
    whole_units c.args.scale cell count c.leading-whole.result.0 c.few_scaled.result (take_all count cell (omega arith)) (digits_front cell count found.within c.if-count-eq0.false found.digits) found.value c.few_scaled.ensures.value c.few_scaled.ensures.below

pub returns-clause-value : goal.returns-clause-value
returns-clause-value c =
    let cell = c.args.cell.now in
    let count = c.leading-whole.result.1 in
    let found = c.leading-whole.ensures in
    let decimals = c.split_at.result.1.now in
    let inside : count < length cell = omega arith in
    let some : nat_lt 0 (length decimals) ≡ true = grind (arith, nat_tests, c.if-is_empty.ensures) in
    let past : list_all (λ b. b == 48) (drop c.args.scale decimals) ≡ true = search rules in
    point_units c.args.scale cell decimals count c.leading-whole.result.0 c.few_scaled-2.result inside (digits_front cell count found.within c.if-count-eq0.false found.digits) c.if-cell-count-ne46.false c.split_at.ensures.back some past c.few_scaled-2.ensures.digits found.value c.few_scaled-2.ensures.value c.few_scaled-2.ensures.below
