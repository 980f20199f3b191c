use Rattle.std.proofs.Common.{ℕ, ◌<◌, get_or}
use Rattle.sp_chance.specs.Shares.{share_of}
use Rattle.sp_splitter.specs.Asking.{IsGuessed}
use Rattle.sp_splitter.proofs.guessing.guess.Given as goal

abbrev pub invariant-loop-id : goal.invariant-loop-id
invariant-loop-id g l =
    (k : ℕ) → k < l.id-index
    → IsGuessed l.core.plan l.core.machine ((goal.Predictor-dyn g l.predictor.now).means l.predictor.now.1) (share_of l.chances) (get_or l.id-items k 0)
