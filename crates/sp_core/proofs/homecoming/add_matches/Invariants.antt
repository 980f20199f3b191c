use Rattle.std.proofs.Common.{◌≡◌, ◌++◌, map, take}
use Rattle.sp_core.specs.Homecoming.{completions_in, unnumbered_told}
use Rattle.sp_core.proofs.homecoming.add_matches.Given as goal

abbrev pub invariant-loop-one : goal.invariant-loop-one
invariant-loop-one l = l.matches.items ≡ l.initial.matches.items ++ map (unnumbered_told l.window) (completions_in (take l.one-index l.moves))
