use Rattle.sp_cert.proofs.Telling.{tell_the_run}
use Rattle.sp_cert.proofs.law.proofs_tell_the_run.Goals as goal

pub returns : goal.returns
returns c = tell_the_run
