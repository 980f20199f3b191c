use Rattle.std.proofs.Common.{◌≡◌, ◌<◌, ◌≤◌, ◌+◌, ◌*◌, ◌^◌, ℕ, true, length, get_or, refl, sym, ◌∙◌, subst, arith}
use Rattle.std.proofs.lemmas.Bool.Decides.{nat_tests}
use Rattle.sp_rows.specs.Numbers.{is_digit, decimals_to}
use Rattle.sp_rows.specs.Capped.{with_digit, capped}
use Rattle.sp_rows.proofs.Digits.{scaled_decimal, decimals_count, one_more}
use Rattle.sp_rows.proofs.FewDigits.{few_fits, one_more_fits}
use Rattle.sp_rows.proofs.PlainDecimals.{digits_more, below_more}
use Rattle.sp_rows.proofs.numbers.few_scaled.Goals as goal

pub loop-place-init : goal.loop-place-init
loop-place-init c =
    let small = few_fits c.args.whole c.args.count c.requires.below (omega arith) in
    record {
      value = omega arith;
      digits = refl;
      below = subst (λ (k : ℕ). c.args.whole < 10 ^ k) (omega arith) c.requires.below;
    }

pub loop-place-preserved : goal.loop-place-preserved
loop-place-preserved c =
    let scale = c.args.scale in
    let count = c.args.count in
    let list = decimals_to scale c.args.decimals.now in
    let i = c.loop-place.place in
    let value = c.loop-place.value in
    let digit = c.decimal_at-digit.result in
    let inside : i < length list = omega (arith, decimals_count scale c.args.decimals.now) in
    let here : digit ≡ get_or list i 0 = c.decimal_at-digit.ensures ∙ sym (scaled_decimal scale c.args.decimals.now i 0 (omega arith)) in
    let is : is_digit digit ≡ true = grind (arith, nat_tests, c.if-not-is_ascii_digit.ensures) in
    let high : digit ≤ 57 = grind (arith, nat_tests, is) in
    let small = one_more_fits value (count + i) c.loop-place.invariant.below (omega arith) in
    let next : value * 10 + c.from.result ≡ capped (with_digit value digit) = omega arith in
    record {
      value = one_more c.args.whole list i value digit (value * 10 + c.from.result) inside c.loop-place.invariant.value here next;
      digits = digits_more list i digit inside c.loop-place.invariant.digits here is;
      below = subst (λ (k : ℕ). value * 10 + c.from.result < 10 ^ k) (omega arith) (below_more value c.from.result (count + i) c.loop-place.invariant.below (omega arith));
    }

pub returns-clause-below : goal.returns-clause-below
returns-clause-below c = few_fits c.loop-place.value (c.args.count + c.loop-place.place) c.loop-place.invariant.below (omega arith)
