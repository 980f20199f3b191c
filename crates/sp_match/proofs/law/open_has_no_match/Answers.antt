use Rattle.sp_match.proofs.SeveralAreLawful.{open_has_no_match}
use Rattle.sp_match.proofs.law.open_has_no_match.Goals as goal

pub returns : goal.returns
returns c = open_has_no_match
