use Rattle.std.proofs.Common.{◌≡◌}
use Rattle.sp_splitter.specs.Gathering.{Gathered}
use Rattle.sp_splitter.proofs.Gathered.{BringsAll}
use Rattle.sp_splitter.proofs.gathering.gather.Given as goal

abbrev pub invariant-loop : goal.invariant-loop
invariant-loop g l = record {
  brings : BringsAll l.initial.core l.core l.initial.by l.by;
  gathered : Gathered ((goal.Predictor-dyn g l.initial.predictor.now).taught l.initial.predictor.now.1) ((goal.Predictor-dyn g l.predictor.now).taught l.predictor.now.1)
      l.initial.core l.core l.initial.by l.by;
  name : (goal.Predictor-dyn g l.predictor.now).named l.predictor.now.1 ≡ (goal.Predictor-dyn g l.initial.predictor.now).named l.initial.predictor.now.1;
}
