use Rattle.sp_compile.specs.Spines.{Spine}
use Rattle.sp_compile.proofs.spine.spine.Given as goal

abbrev pub invariant-loop-here : goal.invariant-loop-here
invariant-loop-here l = Spine l.tree l.nodes.items l.here
