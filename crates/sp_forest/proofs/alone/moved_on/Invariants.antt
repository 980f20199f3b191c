use Rattle.std.proofs.Common.{◌≡◌, map, take}
use Rattle.sp_parts.specs.Seen.{seen}
use Rattle.sp_parts.specs.Shifted as spec
use Rattle.sp_forest.proofs.alone.moved_on.Given as goal

abbrev pub invariant-loop-one : goal.invariant-loop-one
invariant-loop-one l = l.found.items ≡ map (spec.shifted (seen l.part) 0) (take l.one-index l.own)
