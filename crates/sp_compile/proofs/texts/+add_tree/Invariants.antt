use Rattle.std.proofs.Common.{◌∷◌, [], vec_len}
use Rattle.sp_compile.specs.Gathers.{Gathers}
use Rattle.sp_compile.specs.Spines.{Climbs}
use Rattle.sp_compile.proofs.texts.+add_tree.Given as goal

abbrev pub invariant-loop-node : goal.invariant-loop-node
invariant-loop-node l = Climbs l.tree l.nodes.items (λ t. Gathers (t ∷ []) l.fn.texts.items l.texts.items)

abbrev pub decreases-loop-node : goal.decreases-loop-node
decreases-loop-node l = vec_len l.nodes
