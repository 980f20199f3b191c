use Rattle.std.proofs.Common.{◌≡◌, take}
use Rattle.std.specs.List.{flat_map}
use Rattle.sp_base.specs.Numbers.{with_numbers}
use Rattle.sp_core.specs.Homecoming.{completions_in, used_told}
use Rattle.sp_core.proofs.homecoming.add_used.Given as goal

abbrev pub invariant-loop-one : goal.invariant-loop-one
invariant-loop-one l = l.numbers.list ≡ with_numbers l.initial.numbers.list (flat_map used_told (completions_in (take l.one-index l.moves)))
