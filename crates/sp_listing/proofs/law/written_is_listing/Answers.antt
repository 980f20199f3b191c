use Rattle.sp_listing.proofs.Feeds.{written_is_listing}
use Rattle.sp_listing.proofs.law.written_is_listing.Goals as goal

pub returns : goal.returns
returns c = written_is_listing
