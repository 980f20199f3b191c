use Rattle.std.proofs.Common.{◌≡◌, take}
use Rattle.sp_chance.specs.Taught.{TaughtOn}
use Rattle.sp_splitter.specs.Gathering.{wanted_of}
use Rattle.sp_splitter.proofs.learning.learn.Given as goal

abbrev pub invariant-loop-entry : goal.invariant-loop-entry
invariant-loop-entry g l = record {
  taught : TaughtOn ((goal.Predictor-dyn g l.initial.predictor.now).taught l.initial.predictor.now.1) (wanted_of (take l.entry-index l.moves))
      ((goal.Predictor-dyn g l.predictor.now).taught l.predictor.now.1);
  name : (goal.Predictor-dyn g l.predictor.now).named l.predictor.now.1 ≡ (goal.Predictor-dyn g l.initial.predictor.now).named l.initial.predictor.now.1;
}
