-- Loans and readings may go from one thread to another, of whichever register they are: shown part by part.
use denote.RattleType.{RattleType}
use denote.Param.Send.{IsSend, recorded_send, struct_send, sendable}
use denote.Struct.Declared.{shape}
use Rattle.std.proofs.Crossing.{crosses}
use Rattle.std.proofs.option.Option.TheSendSync as perhaps
use Rattle.std.specs.contracts.option.Option as option
use Rattle.sp_piece.proofs.Crossing.{done_common, done_sent, piece_sent}
use Rattle.sp_lend.specs.declared.register.Lending.{Ghosts}
use Rattle.sp_lend.specs.contracts.boxed.Boxed as boxed
use Rattle.sp_lend.specs.contracts.loan.Loan as loan
use Rattle.sp_lend.specs.contracts.loan.Loan.TheInside as loan_inside
use Rattle.sp_lend.specs.contracts.loan.Receipt as receipt
use Rattle.sp_lend.specs.contracts.memo.Hint as hint
use Rattle.sp_lend.specs.contracts.reading.Reading as reading
use Rattle.sp_lend.specs.contracts.reading.Reading.TheInside as reading_inside
use Rattle.sp_lend.proofs.loan.Receipt.TheSendSync as receipts

-- a kept reading goes along by a handle
hint_sent : IsSend hint.the_field.row
hint_sent = search (done_sent, done_common, sendable, crosses) depth 30

-- a piece goes along in its box
boxed_sent : IsSend boxed.the_row
boxed_sent = search (piece_sent, sendable, crosses) depth 30

module _ (L : RattleType) (named : Ghosts L.Denot) where
  -- a receipt, where there is one
  maybe_sent : IsSend (option.the_field (receipt.the_row L named)).row
  maybe_sent = perhaps.the_field_send (receipt.the_row L named) (receipts.the_send L named)

  loan_kept : IsSend (loan_inside.the_row L named)
  loan_kept =
      recorded_send _ _ _ (loan_inside.the_type L named).to_one
      (struct_send (shape (loan_inside.the_type L named)) (boxed_sent, (maybe_sent, (hint_sent, tt))))

  pub loan_sent : IsSend (loan.the_row L named)
  loan_sent = search (loan_kept, sendable) depth 30

  reading_kept : IsSend (reading_inside.the_row L named)
  reading_kept =
      recorded_send _ _ _ (reading_inside.the_type L named).to_one
      (struct_send (shape (reading_inside.the_type L named)) (boxed_sent, (maybe_sent, (hint_sent, tt))))

  pub reading_sent : IsSend (reading.the_row L named)
  reading_sent = search (reading_kept, sendable) depth 30
