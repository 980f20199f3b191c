use Rattle.std.proofs.Common.{◌≡◌, ◌≤◌, ◌<◌, ◌^◌, true, take}
use Rattle.std.specs.List.{list_all}
use Rattle.sp_base.specs.Limits.{past_number_limit}
use Rattle.sp_rows.specs.Numbers
use Rattle.sp_rows.specs.Capped.{with_more}
use Rattle.sp_rows.proofs.numbers.leading.Given as goal

abbrev pub invariant-loop-count : goal.invariant-loop-count
invariant-loop-count l = record {
  value : l.value ≡ with_more 0 (take l.count l.digits);
  small : l.value ≤ past_number_limit;
  below : l.value < 10 ^ l.count;
  digits : list_all Numbers.is_digit (take l.count l.digits) ≡ true;
}
