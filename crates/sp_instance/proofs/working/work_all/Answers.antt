-- The closure that each instance runs captures four references; the hub may be shared since its jobs and pieces may cross.
use denote.Exit.{no}
use denote.Param.Send.{arg_send, param_send}
use denote.Param.{param}
use Rattle.std.proofs.Common.{◌≡◌, ◌∙◌, ℕ, ◌<◌, ◌++◌, List, length, get_or, take, drop, map, ap, rules}
use Rattle.std.proofs.lemmas.List.{take_at}
use Rattle.sp_hub.specs.State.{Sitting}
use Rattle.sp_hub.proofs.Told.{same_numbers}
use Rattle.std.proofs.alloc.Global.TheSendSync as global
use Rattle.sp_hub.proofs.exchange.Hub.TheSendSync as hub
use Rattle.sp_hub.proofs.seat.Seat.TheSendSync as seat
use Rattle.sp_lend.specs.contracts.loan.Loan as loan
use Rattle.sp_lend.specs.contracts.loan.LoanNamed.TheImpl as loan_named
use Rattle.sp_lend.specs.contracts.reading.Reading as reading
use Rattle.sp_lend.specs.contracts.reading.ReadingNamed.TheImpl as reading_named
use Rattle.sp_lend.proofs.Crossing.{loan_sent, reading_sent}
use Rattle.sp_instance.proofs.working.work_all.Goals as goal

pub for_each_mut-requires-sync-F : goal.for_each_mut-requires-sync-F
for_each_mut-requires-sync-F g c κs within =
    let book = param 0 g.row.B in
    let named = g.B.Lending in
    let shared =
    hub.the_sync (loan.the_row book named) (reading.the_row book named) (param 1 g.row.L) (loan_named.ghosts book named loan_named.no_dict) (reading_named.ghosts book named reading_named.no_dict)
    g.L.Naming g.L.Ledger (loan_sent book named) (reading_sent book named) in
    record {
      shared = λ x b o κ. (
        (
          (λ q. tt, c.type_bounds.sync-R.shared x.0.now _ _ _),
          (
            (λ q. tt, global.the_sync.shared x.1.now _ _ κ),
            ((λ q. tt, shared.shared x.2.now _ _ _), ((λ q. tt, c.type_bounds.sync-G.shared x.3.now _ _ _), tt)),
          ),
        ),
        λ q. tt,
      );
    }

pub for_each_mut-requires-send-T : goal.for_each_mut-requires-send-T
for_each_mut-requires-send-T g c κs within = param_send _ _ (arg_send _ no _ (seat.the_send (reading.the_row (param 0 g.row.B) g.B.Lending) (param 1 g.row.L) (reading_named.ghosts (param 0 g.row.B) g.B.Lending reading_named.no_dict) g.L.Naming g.L.Ledger (reading_sent (param 0 g.row.B) g.B.Lending)))

pub returns-clause-numbers : goal.returns-clause-numbers
returns-clause-numbers g c =
    let first : List Sitting = c.args.seats.now.items in
    let last : List Sitting = c.for_each_mut.new.s in
    let held = c.args.seats.now.ok in
    let long : length last ≡ length first = search rules in
    let whole : take c.args.seats.now.len (last ++ drop (length last) first) ≡ last = take_at last (drop (length last) first) c.args.seats.now.len (search rules) in
    let each : (k : ℕ) (d : Sitting) → k < length first → (get_or last k d).number ≡ (get_or first k d).number = λ k d below. search rules in
    ap (λ (l : List Sitting). map (λ (s : Sitting). s.number) l) whole ∙ same_numbers first last long each
