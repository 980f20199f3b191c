use Rattle.std.proofs.Common.{◌∙◌, sym, arith}
use Rattle.sp_rows.specs.Numbers.{decimals_to}
use Rattle.sp_rows.proofs.Digits.{scaled_decimal, decimals_count, one_more}
use Rattle.sp_rows.proofs.numbers.with_decimals.Goals as goal

pub loop-place-preserved : goal.loop-place-preserved
loop-place-preserved c =
    let scale = c.args.scale in
    let decimals = c.args.decimals.now in
    let i = c.loop-place.place in
    one_more c.args.whole (decimals_to scale decimals) i c.loop-place.value c.decimal_at.result c.with_digit-value.result (omega (arith, decimals_count scale decimals)) c.loop-place.invariant (c.decimal_at.ensures ∙ sym (scaled_decimal scale decimals i 0 (omega arith))) c.with_digit-value.ensures
