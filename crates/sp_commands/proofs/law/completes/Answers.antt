use Rattle.sp_commands.proofs.Completing.{completes}
use Rattle.sp_commands.proofs.law.completes.Goals as goal

pub returns : goal.returns
returns c = completes c.one_reading.ensures c.one_truth.ensures.truth c.rows_stay.ensures c.one_schedule.ensures (record {
  reading = c.one_reading.ensures;
  second = c.one_second.ensures;
  returned = c.one_return.ensures;
  alike = c.returns_are_alike.ensures;
  truth = c.one_truth.ensures.truth;
})
