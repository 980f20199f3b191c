use Rattle.std.proofs.Common.{length}
use Rattle.sp_split.specs.Relieving.{AreWithin, Relieved}
use Rattle.sp_split.proofs.relay.Team.relieve.Given as goal

abbrev pub invariant-loop-next : goal.invariant-loop-next
invariant-loop-next g l = record {
  within : AreWithin l.self.relay l.finished;
  relieved : Relieved (λ one. (goal.Predictor-dyn g (one.vtable, one.value)).named one.value) l.initial.self l.self;
}

abbrev pub decreases-loop-next : goal.decreases-loop-next
decreases-loop-next g l = length l.self.relay.rest.items
