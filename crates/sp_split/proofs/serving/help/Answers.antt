use denote.Param.Send.{sendable}
use Rattle.sp_lend.proofs.Crossing.{loan_sent, reading_sent}
use Rattle.sp_split.proofs.serving.help.Goals as goal

pub room-room-requires-send-P : goal.room-room-requires-send-P
room-room-requires-send-P g c κs within = search (reading_sent, sendable) depth 20

pub waiting-requires-send-P : goal.waiting-requires-send-P
waiting-requires-send-P g c κs within = search (reading_sent, sendable) depth 20

pub wait_home-requires-send-J : goal.wait_home-requires-send-J
wait_home-requires-send-J g c κs within = search (loan_sent, sendable) depth 20

pub wait_home-requires-send-P : goal.wait_home-requires-send-P
wait_home-requires-send-P g c κs within = search (reading_sent, sendable) depth 20
