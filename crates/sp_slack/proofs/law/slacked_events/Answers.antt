use Rattle.sp_slack.proofs.Sorting.{slacked_ordered, slacked_own, slacked_few, count_sorted}
use Rattle.sp_slack.proofs.law.slacked_events.Goals as goal

pub returns : goal.returns
returns c = record { ordered = slacked_ordered; own = slacked_own; few = slacked_few; all = λ is slack events. count_sorted is events }
