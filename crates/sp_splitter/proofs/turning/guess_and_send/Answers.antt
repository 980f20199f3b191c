use Rattle.std.proofs.Common.{subst}
use Rattle.sp_chance.specs.Shares.{share_of}
use Rattle.sp_core.specs.Running.{Running}
use Rattle.sp_spread.specs.Guessing.{AreGuessed}
use Rattle.sp_splitter.proofs.turning.guess_and_send.Goals as goal

pub returns-clause-guessed : goal.returns-clause-guessed
returns-clause-guessed g c =
    let means = (goal.Predictor-dyn g c.args.predictor.now).means c.args.predictor.now.1 in
    let guessed = subst (λ (z : Running). AreGuessed z.plan z.machine means (share_of c.in_ok-chances.chances)) c.core.ensures c.in_ok-chances.ensures in
    c.in_ok-send_out.ensures.guessed means guessed
