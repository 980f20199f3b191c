use Rattle.std.proofs.Common.{◌≡◌, take, replicate}
use Rattle.sp_wants.specs.Stretches.{all_pairs}
use Rattle.sp_chance.specs.Taught.{TaughtOn}
use Rattle.sp_chance.proofs.predictor.Predictor.learn_all.Given as goal

-- the pairs of the stretches in front of the place
abbrev pub invariant-loop-stretch : goal.invariant-loop-stretch
invariant-loop-stretch g l = record {
  name : g.Self.Predictor.named l.self ≡ g.Self.Predictor.named l.initial.self;
  taught : TaughtOn (g.Self.Predictor.taught l.initial.self) (all_pairs (take l.stretch-index l.stretch-items)) (g.Self.Predictor.taught l.self);
}

-- so many of this stretch
abbrev pub invariant-loop : goal.invariant-loop
invariant-loop g l = record {
  name : g.Self.Predictor.named l.self ≡ g.Self.Predictor.named l.initial.self;
  taught : TaughtOn (g.Self.Predictor.taught l.initial.self) (replicate l.counter (l.stretch.before, l.stretch.after)) (g.Self.Predictor.taught l.self);
}
