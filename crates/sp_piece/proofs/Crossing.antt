-- Pieces may go from one thread to another, and readings that are kept may be held by several: shown part by part, since a search for the whole at once gives up.
use denote.Param.Send.{IsSend, IsSync, recorded_send, struct_send, sendable}
use denote.Struct.Declared.{shape}
use Rattle.std.proofs.Crossing.{crosses}
use Rattle.sp_base.proofs.numbers.Numbers.TheSendSync as numbers
use Rattle.sp_plan.proofs.event.Event.TheSendSync as event
use Rattle.sp_plan.proofs.Listed.TheSendSync as listed
use Rattle.sp_match.proofs.known.Known.TheSendSync as known
use Rattle.sp_match.proofs.moves.Moves.TheSendSync as moves
use Rattle.sp_share.proofs.Crossing.{matcher_common, matcher_sent, shared_sent}
use Rattle.sp_share.specs.contracts.shared.Shared as shared
use Rattle.sp_piece.specs.contracts.done.Done as done
use Rattle.sp_piece.specs.contracts.job.Job as job
use Rattle.sp_piece.specs.contracts.own.Own as own
use Rattle.sp_piece.specs.contracts.piece.Piece as piece
use Rattle.sp_piece.specs.contracts.piece.Piece.TheInside as inside

job_kept : IsSend job.the_field.row
job_kept = search (shared_sent, listed.the_send, event.the_send, known.the_field_send, numbers.the_send, sendable, crosses) depth 30

pub job_sent : IsSend job.the_row
job_sent = search (shared_sent, listed.the_send, event.the_send, known.the_field_send, numbers.the_send, sendable, crosses) depth 30

own_kept : IsSend own.the_field.row
own_kept = search (matcher_sent, sendable, crosses) depth 30

inside_sent : IsSend inside.the_row
inside_sent =
    recorded_send _ _ _ inside.the_type.to_one (struct_send (shape inside.the_type)
    (job_kept, (own_kept, (search (moves.the_send, sendable, crosses) depth 30, (search sendable, (search sendable, (search sendable, tt)))))))

pub piece_sent : IsSend piece.the_row
piece_sent = search (inside_sent, sendable) depth 30

shared_common : IsSync shared.the_row
shared_common = search (matcher_sent, matcher_common, sendable, crosses) depth 30

pub done_sent : IsSend done.the_row
done_sent = search (shared_sent, matcher_sent, listed.the_send, event.the_send, moves.the_send, numbers.the_send, sendable, crosses) depth 30

pub done_common : IsSync done.the_row
done_common = search (shared_common, matcher_common, listed.the_sync, event.the_sync, moves.the_sync, numbers.the_sync, sendable, crosses) depth 30
