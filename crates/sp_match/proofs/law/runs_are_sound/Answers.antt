use Rattle.sp_match.proofs.RunsAreSound.{runs_are_sound}
use Rattle.sp_match.proofs.law.runs_are_sound.Goals as goal

pub returns : goal.returns
returns c = runs_are_sound
