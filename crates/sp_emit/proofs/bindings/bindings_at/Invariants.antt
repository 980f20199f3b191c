use Rattle.sp_emit.proofs.Named.{Going}
use Rattle.sp_emit.proofs.bindings.bindings_at.Given as goal

abbrev pub invariant-loop-name : goal.invariant-loop-name
invariant-loop-name l = Going l.plan l.text l.bound.items l.rest l.name-index
