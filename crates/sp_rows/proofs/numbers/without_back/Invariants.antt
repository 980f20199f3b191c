use Rattle.std.proofs.Common.{◌≡◌, ◌+◌, ◌≤◌, take, length}
use Rattle.std.specs.List.{suffix_len}
use Rattle.sp_rows.specs.Numbers
use Rattle.sp_rows.proofs.numbers.without_back.Given as goal

abbrev pub invariant-loop-end : goal.invariant-loop-end
invariant-loop-end l = record {
  within : l.end ≤ length l.cell;
  so_far : l.end + suffix_len Numbers.is_blank l.cell ≡ length l.cell + suffix_len Numbers.is_blank (take l.end l.cell);
}

abbrev pub decreases-loop-end : goal.decreases-loop-end
decreases-loop-end l = l.end
