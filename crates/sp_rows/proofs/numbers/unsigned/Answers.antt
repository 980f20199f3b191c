use Rattle.std.proofs.Common.{◌≡◌, ◌<◌, ℕ, true, List, [], ◌∷◌, take, length, ◌∙◌, ap, sym, subst, arith}
use Rattle.std.proofs.lemmas.List.{take_all}
use Rattle.sp_rows.specs.Numbers.{are_digits, within_bound, units_of}
use Rattle.sp_rows.specs.Capped.{with_more}
use Rattle.sp_rows.proofs.Points.{whole_number, no_digit_first, stuck_at, digits_front, point_at}
use Rattle.sp_rows.proofs.numbers.unsigned.Goals as goal

pub returns-then-count-eq0-clause-units : goal.returns-then-count-eq0-clause-units
returns-then-count-eq0-clause-units c =
    let digits = c.args.digits.now in
    let count = c.leading-value.result.1 in
    let ends = c.leading-value.ensures.ends in
    sym (no_digit_first c.args.scale digits (λ some. let here : count < length digits = omega arith in rw c.if-count-eq0.true at (ends here)))

pub returns-then-count-digits-clause-units : goal.returns-then-count-digits-clause-units
returns-then-count-digits-clause-units c =
    let digits = c.args.digits.now in
    let count = c.leading-value.result.1 in
    let found = c.leading-value.ensures in
    let all : take count digits ≡ digits = take_all count digits (omega arith) in
    let are : are_digits digits ≡ true = subst (λ (l : List ℕ). are_digits l ≡ true) all (digits_front digits count found.within c.if-count-eq0.false found.digits) in
    c.within_bound.ensures.value
    ∙ ap within_bound c.with_decimals.ensures
    ∙ whole_number c.args.scale digits c.leading-value.result.0 are (found.value ∙ ap (with_more 0) all)

pub returns-then-digits-count-ne46-clause-units : goal.returns-then-digits-count-ne46-clause-units
returns-then-digits-count-ne46-clause-units c =
    let digits = c.args.digits.now in
    let count = c.leading-value.result.1 in
    let found = c.leading-value.ensures in
    let inside : count < length digits = omega arith in
    sym (stuck_at c.args.scale digits count inside found.digits (found.ends inside) c.if-digits-count-ne46.true)

pub returns-clause-units : goal.returns-clause-units
returns-clause-units c =
    let digits = c.args.digits.now in
    let count = c.leading-value.result.1 in
    let found = c.leading-value.ensures in
    let inside : count < length digits = omega arith in
    let are : are_digits (take count digits) ≡ true = digits_front digits count found.within c.if-count-eq0.false found.digits in
    c.decimal_units.ensures.units (take count digits) are found.value
    ∙ ap (λ (decimals : List ℕ). units_of c.args.scale (take count digits ∷ decimals ∷ [])) c.split_at.ensures.back
    ∙ point_at c.args.scale digits count inside are c.if-digits-count-ne46.false
