use Rattle.sp_match.proofs.ClosingEndsRuns.{one_event_more}
use Rattle.sp_match.proofs.law.one_event_more.Goals as goal

pub returns : goal.returns
returns c = one_event_more
