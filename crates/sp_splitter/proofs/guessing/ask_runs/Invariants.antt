use Rattle.sp_chance.specs.Shares.{share_of}
use Rattle.sp_splitter.proofs.Asked.{Asked}
use Rattle.sp_splitter.proofs.guessing.ask_runs.Given as goal

abbrev pub invariant-loop-place : goal.invariant-loop-place
invariant-loop-place g l =
    Asked l.matcher ((goal.Predictor-dyn g l.predictor.now).means l.predictor.now.1) l.events l.id l.place (share_of l.chances) (share_of l.fn.chances)
