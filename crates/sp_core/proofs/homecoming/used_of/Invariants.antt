use Rattle.std.proofs.Common.{◌≡◌, [], take}
use Rattle.std.specs.List.{flat_map}
use Rattle.sp_base.specs.Numbers.{with_numbers}
use Rattle.sp_core.specs.Homecoming.{completions, used_told}
use Rattle.sp_core.proofs.homecoming.used_of.Given as goal

abbrev pub invariant-loop-told : goal.invariant-loop-told
invariant-loop-told l = l.numbers.list ≡ with_numbers [] (flat_map used_told (completions (take l.told-index l.moves)))
