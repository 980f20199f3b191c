use Rattle.sp_match.proofs.CompletionsAreMatches.{completions_are_matches}
use Rattle.sp_match.proofs.MovesAreHandling.{ordered_rises}
use Rattle.sp_match.proofs.law.completions_are_matches.Goals as goal

pub returns : goal.returns
returns c q s x ordered = completions_are_matches q s x (ordered_rises s ordered)
