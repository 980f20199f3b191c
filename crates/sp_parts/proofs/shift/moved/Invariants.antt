use Rattle.std.proofs.Common.{◌≡◌, take}
use Rattle.sp_parts.specs.Moving.{moved_by}
use Rattle.sp_parts.proofs.shift.moved.Given as goal

abbrev pub invariant-loop-number : goal.invariant-loop-number
invariant-loop-number l = l.list.items ≡ moved_by l.by (take l.number-index l.numbers)
