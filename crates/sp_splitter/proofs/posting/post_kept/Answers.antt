use denote.Param.Send.{sendable}
use Rattle.sp_lend.proofs.Crossing.{reading_sent}
use Rattle.sp_splitter.proofs.posting.post_kept.Goals as goal

pub waiting-requires-send-P : goal.waiting-requires-send-P
waiting-requires-send-P g c κs within = search (reading_sent, sendable) depth 20

pub room-requires-send-P : goal.room-requires-send-P
room-requires-send-P g c κs within = search (reading_sent, sendable) depth 20
