use Rattle.std.proofs.Common.{◌≡◌, take}
use Rattle.sp_rows.specs.Capped.{with_more}
use Rattle.sp_rows.specs.Numbers.{decimals_to}
use Rattle.sp_rows.proofs.numbers.with_decimals.Given as goal

abbrev pub invariant-loop-place : goal.invariant-loop-place
invariant-loop-place l = l.value ≡ with_more l.fn.whole (take l.place (decimals_to l.fn.scale l.decimals))
