use Rattle.std.proofs.Common.{◌≡◌, ◌<◌, ◌+◌, ◌^◌, true, take}
use Rattle.std.specs.List.{list_all}
use Rattle.sp_rows.specs.Numbers.{is_digit, decimals_to}
use Rattle.sp_rows.specs.Capped.{with_more}
use Rattle.sp_rows.proofs.numbers.few_scaled.Given as goal

abbrev pub invariant-loop-place : goal.invariant-loop-place
invariant-loop-place l = record {
  value : l.value ≡ with_more l.fn.whole (take l.place (decimals_to l.fn.scale l.decimals));
  digits : list_all is_digit (take l.place (decimals_to l.fn.scale l.decimals)) ≡ true;
  below : l.value < 10 ^ (l.fn.count + l.place);
}
