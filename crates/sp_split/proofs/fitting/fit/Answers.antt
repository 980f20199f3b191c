use denote.Param.Send.{sendable}
use Rattle.sp_lend.proofs.Crossing.{reading_sent}
use Rattle.sp_split.proofs.fitting.fit.Goals as goal

pub new-requires-2-send-P : goal.new-requires-2-send-P
new-requires-2-send-P g c κs within = search (reading_sent, sendable) depth 20
