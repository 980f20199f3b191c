use Rattle.std.proofs.Common.{◌≡◌, map, take}
use Rattle.sp_parts.specs.Moving.{moved_by}
use Rattle.sp_parts.proofs.shift.shifted.Given as goal

abbrev pub invariant-loop-name : goal.invariant-loop-name
invariant-loop-name l = l.bound.items ≡ map (λ pair. (pair.0, moved_by l.by pair.1)) (take l.name-index l.found.bound)
