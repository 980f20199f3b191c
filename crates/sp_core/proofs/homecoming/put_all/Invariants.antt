use Rattle.std.proofs.Common.{◌≡◌, ◌+◌, ◌≤◌, take}
use Rattle.sp_base.specs.Numbers.{with_numbers}
use Rattle.sp_core.proofs.homecoming.put_all.Given as goal

abbrev pub invariant-loop-n : goal.invariant-loop-n
invariant-loop-n l = record { list : l.numbers.list ≡ with_numbers l.initial.numbers.list (take l.n-index l.more); spare : l.initial.numbers.spare ≤ l.numbers.spare + l.n-index }
