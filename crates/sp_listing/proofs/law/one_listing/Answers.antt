use Rattle.sp_listing.proofs.Alone.{one_listing}
use Rattle.sp_listing.proofs.law.one_listing.Goals as goal

pub returns : goal.returns
returns c = one_listing
