use Rattle.std.proofs.Common.{◌≡◌, take}
use Rattle.sp_wants.specs.Stretches.{all_pairs}
use Rattle.sp_chance.specs.Learned.{learned_all}
use Rattle.sp_chance.proofs.markov.MarkovPredictor.learn_all.Given as goal

-- the pairs of the stretches in front of the place
abbrev pub invariant-loop-stretch : goal.invariant-loop-stretch
invariant-loop-stretch l = l.self ≡ learned_all l.initial.self (all_pairs (take l.stretch-index l.stretch-items))
