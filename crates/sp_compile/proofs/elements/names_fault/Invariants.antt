use Rattle.std.proofs.Common.{◌≡◌, [], map, take, drop}
use Rattle.sp_compile.specs.Checks.{names_fault}
use Rattle.sp_compile.proofs.elements.names_fault.Given as goal

abbrev pub invariant-loop-at : goal.invariant-loop-at
invariant-loop-at l = names_fault [] l.names ≡ names_fault (map (λ name. name.name.text) (take l.at l.names)) (drop l.at l.names)
