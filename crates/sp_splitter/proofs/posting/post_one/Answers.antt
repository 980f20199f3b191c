use denote.Param.Send.{sendable}
use Rattle.sp_lend.proofs.Crossing.{loan_sent, reading_sent}
use Rattle.sp_splitter.proofs.posting.post_one.Goals as goal

pub post-requires-send-J : goal.post-requires-send-J
post-requires-send-J g = search (loan_sent, sendable) depth 20

pub post-requires-send-P : goal.post-requires-send-P
post-requires-send-P g = search (reading_sent, sendable) depth 20

pub post_quietly-requires-send-J : goal.post_quietly-requires-send-J
post_quietly-requires-send-J g = search (loan_sent, sendable) depth 20

pub post_quietly-requires-send-P : goal.post_quietly-requires-send-P
post_quietly-requires-send-P g = search (reading_sent, sendable) depth 20
