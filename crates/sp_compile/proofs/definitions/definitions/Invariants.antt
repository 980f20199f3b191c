use Rattle.sp_compile.proofs.Naming.{GoneThrough}
use Rattle.sp_compile.proofs.definitions.definitions.Given as goal

abbrev pub invariant-loop-at : goal.invariant-loop-at
invariant-loop-at l = GoneThrough l.query l.texts l.names l.at l.planned.items
