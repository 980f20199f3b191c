use Rattle.sp_spread.proofs.Followed.{returns_follow}
use Rattle.sp_spread.proofs.returns_follow_readings.Goals as goal

pub returns : goal.returns
returns c = returns_follow
