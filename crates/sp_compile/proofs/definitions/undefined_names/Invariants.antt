use Rattle.std.proofs.Common.{ℕ, List, [], take}
use Rattle.std.specs.List.{All}
use Rattle.sp_plan.specs.Bounds.{PredWithin}
use Rattle.sp_compile.specs.Naming.{StandSoFar}
use Rattle.sp_compile.proofs.definitions.undefined_names.Given as goal

abbrev pub invariant-loop-named : goal.invariant-loop-named
invariant-loop-named l = ((texts : List (List ℕ)) → StandSoFar l.query texts [] (take l.named-index l.names) l.planned.items) × All (λ name. PredWithin name.pred) l.planned.items
