use Rattle.std.proofs.Common.{◌≡◌, [], map, take, drop}
use Rattle.sp_compile.specs.Checks.{consumed_names_fault}
use Rattle.sp_compile.proofs.consume.consume_fault.Given as goal

abbrev pub invariant-loop-at : goal.invariant-loop-at
invariant-loop-at l = consumed_names_fault l.query [] l.consumed ≡ consumed_names_fault l.query (map (λ name. name.text) (take l.at l.consumed)) (drop l.at l.consumed)
