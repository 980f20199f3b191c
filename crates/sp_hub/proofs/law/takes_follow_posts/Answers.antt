use Rattle.sp_hub.proofs.InOrder.{nth_take}
use Rattle.sp_hub.proofs.law.takes_follow_posts.Goals as goal

pub returns : goal.returns
returns c = nth_take
