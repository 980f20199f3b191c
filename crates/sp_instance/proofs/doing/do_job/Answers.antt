use denote.Param.Send.{sendable}
use Rattle.sp_lend.proofs.Crossing.{reading_sent}
use Rattle.sp_instance.proofs.doing.do_job.Goals as goal

pub number-requires-send-P : goal.number-requires-send-P
number-requires-send-P g c κs within = search (reading_sent, sendable) depth 20
