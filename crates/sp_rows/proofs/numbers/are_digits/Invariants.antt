use Rattle.std.proofs.Common.{◌≡◌, true, take}
use Rattle.std.specs.List.{list_all}
use Rattle.sp_rows.specs.Numbers
use Rattle.sp_rows.proofs.numbers.are_digits.Given as goal

abbrev pub invariant-loop-b : goal.invariant-loop-b
invariant-loop-b l = list_all Numbers.is_digit (take l.b-index l.digits) ≡ true
