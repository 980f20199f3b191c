use Rattle.sp_commands.proofs.Completing.{checks_complete}
use Rattle.sp_commands.proofs.law.checks_complete.Goals as goal

pub returns : goal.returns
returns c = checks_complete c.one_reading.ensures c.one_truth.ensures.truth c.rows_stay.ensures c.one_listing.ensures
