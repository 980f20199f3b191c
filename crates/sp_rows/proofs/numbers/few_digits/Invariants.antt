use Rattle.std.proofs.Common.{◌≡◌, ◌<◌, ◌^◌, true, take}
use Rattle.std.specs.List.{list_all}
use Rattle.sp_rows.specs.Numbers
use Rattle.sp_rows.proofs.numbers.few_digits.Given as goal

abbrev pub invariant-loop-digit : goal.invariant-loop-digit
invariant-loop-digit l = record {
  value : l.value ≡ Numbers.digits_value (take l.digit-index l.cell);
  digits : list_all Numbers.is_digit (take l.digit-index l.cell) ≡ true;
  below : l.value < 10 ^ l.digit-index;
}
