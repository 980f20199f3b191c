-- The closure of the instances captures four references and their seats; the hub may be shared since its jobs and pieces may cross.
use denote.Exit.{no}
use denote.Param.Send.{IsSend, Quiet-if, arg_send, param_send, recorded_send, sendable, struct_send}
use denote.Struct.Declared.{shape}
use denote.Param.{param}
use mir.Syntax.{of_param}
use Rattle.std.proofs.Crossing.{Vec-send}
use Rattle.std.proofs.alloc.Global.TheSendSync as global
use Rattle.sp_hub.proofs.exchange.Hub.TheSendSync as hub
use Rattle.sp_hub.proofs.seat.Seat.TheSendSync as seat
use Rattle.sp_hub.specs.contracts.seat.Seat as seat_row
use Rattle.sp_lend.specs.contracts.loan.Loan as loan
use Rattle.sp_lend.specs.contracts.loan.LoanNamed.TheImpl as loan_named
use Rattle.sp_lend.specs.contracts.reading.Reading as reading
use Rattle.sp_lend.specs.contracts.reading.ReadingNamed.TheImpl as reading_named
use Rattle.sp_lend.proofs.Crossing.{loan_sent, reading_sent}
use Rattle.sp_split.specs.contracts.attending.Seating as seating_row
use Rattle.sp_split.specs.contracts.attending.Seating.TheInside as inside
use Rattle.sp_split.proofs.joining.beside.Goals as goal

pub join-seating-requires-send-F : goal.join-seating-requires-send-F
join-seating-requires-send-F g c κs within =
    let book = param 0 g.row.B in
    let named = g.B.Lending in
    let hub_of = param 1 g.row.L in
    let shared =
    hub.the_sync (loan.the_row book named) (reading.the_row book named) hub_of (loan_named.ghosts book named loan_named.no_dict) (reading_named.ghosts book named reading_named.no_dict)
    g.L.Naming g.L.Ledger (loan_sent book named) (reading_sent book named) in
    let seated : IsSend (seat_row.the_row (reading.the_row book named) hub_of (reading_named.ghosts book named reading_named.no_dict) g.L.Naming g.L.Ledger) =
    seat.the_send (reading.the_row book named) hub_of (reading_named.ghosts book named reading_named.no_dict) g.L.Naming g.L.Ledger (reading_sent book named) in
    let insided : IsSend (inside.the_row book hub_of named g.L.Naming g.L.Ledger) =
    recorded_send _ _ _ (inside.the_type book hub_of named g.L.Naming g.L.Ledger).to_one (struct_send (shape (inside.the_type book hub_of named g.L.Naming g.L.Ledger)) (Vec-send _ seated, tt)) in
    let crossing : IsSend (seating_row.the_row book hub_of named g.L.Naming g.L.Ledger) = search (insided, sendable) depth 30 in
    record {
      owned = λ x vs vss. (tt, (crossing.owned x.0 vss.0, ((tt, c.type_bounds.sync-R.shared x.1.now _ _ _), ((tt, global.the_sync.shared x.2.now _ _ κs.0), ((tt, shared.shared x.3.now _ _ _), ((tt, c.type_bounds.sync-G.shared x.4.now _ _ _), tt))))));
      leaving = λ k. Quiet-if (k (of_param 1)) _ _ (λ d w. (tt, tt)) (λ d w. tt);
    }

pub join-seating-requires-send-A : goal.join-seating-requires-send-A
join-seating-requires-send-A g c κs within =
    let book = param 0 g.row.B in
    let named = g.B.Lending in
    let hub_of = param 1 g.row.L in
    let seated : IsSend (seat_row.the_row (reading.the_row book named) hub_of (reading_named.ghosts book named reading_named.no_dict) g.L.Naming g.L.Ledger) =
    seat.the_send (reading.the_row book named) hub_of (reading_named.ghosts book named reading_named.no_dict) g.L.Naming g.L.Ledger (reading_sent book named) in
    let insided : IsSend (inside.the_row book hub_of named g.L.Naming g.L.Ledger) =
    recorded_send _ _ _ (inside.the_type book hub_of named g.L.Naming g.L.Ledger).to_one (struct_send (shape (inside.the_type book hub_of named g.L.Naming g.L.Ledger)) (Vec-send _ seated, tt)) in
    let crossing : IsSend (seating_row.the_row book hub_of named g.L.Naming g.L.Ledger) = search (insided, sendable) depth 30 in
    param_send 3 _ (arg_send _ no _ crossing)
