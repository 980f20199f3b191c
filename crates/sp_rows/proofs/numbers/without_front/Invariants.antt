use Rattle.std.proofs.Common.{◌≡◌, ◌+◌, drop}
use Rattle.std.specs.List.{prefix_len}
use Rattle.sp_rows.specs.Numbers
use Rattle.sp_rows.proofs.numbers.without_front.Given as goal

abbrev pub invariant-loop-i : goal.invariant-loop-i
invariant-loop-i l = l.i + prefix_len Numbers.is_blank (drop l.i l.cell) ≡ prefix_len Numbers.is_blank l.cell
