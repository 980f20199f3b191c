use Rattle.std.proofs.Common.{vec_len}
use Rattle.sp_compile.specs.Answers.{ExprAnswer}
use Rattle.sp_compile.specs.Spines.{Climbs}
use Rattle.sp_compile.proofs.expression.+expression.Given as goal

abbrev pub invariant-loop-node : goal.invariant-loop-node
invariant-loop-node l = Climbs l.tree l.nodes.items (λ t. ExprAnswer l.scope l.texts t l.made)

abbrev pub decreases-loop-node : goal.decreases-loop-node
decreases-loop-node l = vec_len l.nodes
