use Rattle.std.proofs.Common.{◌≡◌, map, take}
use Rattle.sp_core.specs.Homecoming.{completions, unnumbered_told}
use Rattle.sp_core.proofs.homecoming.matches_of.Given as goal

abbrev pub invariant-loop-told : goal.invariant-loop-told
invariant-loop-told l = l.matches.items ≡ map (unnumbered_told l.window) (completions (take l.told-index l.moves))
