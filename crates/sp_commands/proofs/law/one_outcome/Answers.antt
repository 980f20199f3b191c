use Rattle.sp_commands.proofs.OneOutcome.{one_outcome}
use Rattle.sp_commands.proofs.law.one_outcome.Goals as goal

pub returns : goal.returns
returns c = one_outcome (record {
  text = c.one_text.ensures;
  reading = c.one_reading.ensures;
  schedule = c.one_schedule.ensures;
  listing = c.one_listing.ensures;
  second = c.one_second.ensures;
  returned = c.one_return.ensures;
  alike = c.returns_are_alike.ensures;
  truth = c.one_truth.ensures.truth;
})
