use Rattle.std.proofs.Common.{◌≡◌, length}
use Rattle.sp_split.specs.Relieving.{AreWithin, Relieved}
use Rattle.sp_split.proofs.serving.relieve.Given as goal

abbrev pub invariant-loop-next : goal.invariant-loop-next
invariant-loop-next g l = record {
  within : AreWithin l.relay l.splitter.core.machine.finished;
  relieved : Relieved (λ one. (goal.Predictor-dyn g (one.vtable, one.value)).named one.value) (record { first = l.initial.splitter.predictor; relay = l.initial.relay })
      (record { first = l.splitter.predictor; relay = l.relay });
  rest : l.splitter ≡ record l.initial.splitter { predictor = l.splitter.predictor };
}

abbrev pub decreases-loop-next : goal.decreases-loop-next
decreases-loop-next g l = length l.relay.rest.items
