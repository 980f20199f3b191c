use Rattle.sp_chance.proofs.Cells.{AreSettled}
use Rattle.sp_chance.proofs.matrix.settle.Given as goal

abbrev pub invariant-loop-state : goal.invariant-loop-state
invariant-loop-state l = AreSettled l.initial.target l.target l.state
