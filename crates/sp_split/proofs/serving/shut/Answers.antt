use denote.Param.Send.{sendable}
use Rattle.sp_lend.proofs.Crossing.{loan_sent, reading_sent}
use Rattle.sp_split.proofs.serving.shut.Goals as goal

pub close-requires-send-J : goal.close-requires-send-J
close-requires-send-J g c κs within = search (loan_sent, sendable) depth 20

pub close-requires-send-P : goal.close-requires-send-P
close-requires-send-P g c κs within = search (reading_sent, sendable) depth 20
