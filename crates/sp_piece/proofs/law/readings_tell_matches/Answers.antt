use Rattle.sp_piece.proofs.MatchesTold.{reading_tells}
use Rattle.sp_piece.proofs.law.readings_tell_matches.Goals as goal

pub returns : goal.returns
returns c = reading_tells c.handling_is_lawful.ensures c.completions_are_matches.ensures
