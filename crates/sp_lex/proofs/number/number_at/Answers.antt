use Rattle.std.proofs.Common.{arith, refl}
use Rattle.sp_lex.proofs.Front as l
use Rattle.sp_lex.proofs.number.number_at.Goals.{then-part-gt6-via-then-part-gt6, then-part-gt6-via-else-part-gt6+then-units-gt-NUMBER_LIMIT}
use Rattle.sp_lex.proofs.number.number_at.Goals as goal

pub returns-then-number-gt-NUMBER_LIMIT-clause-token : goal.returns-then-number-gt-NUMBER_LIMIT-clause-token
returns-then-number-gt-NUMBER_LIMIT-clause-token c = l.whole_long _ _ _ _ c.requires c.digits.ensures.cut c.digits.ensures.run c.with_more-number.ensures (omega arith)

pub returns-then-number-gt-NUMBER_LIMIT-clause-short : goal.returns-then-number-gt-NUMBER_LIMIT-clause-short
returns-then-number-gt-NUMBER_LIMIT-clause-short c = l.whole_long _ _ _ _ c.requires c.digits.ensures.cut c.digits.ensures.run c.with_more-number.ensures (omega arith)

pub returns-in_default-clause-token : goal.returns-in_default-clause-token
returns-in_default-clause-token c = l.whole_reads _ _ _ _ c.requires c.digits.ensures.cut c.digits.ensures.run (l.no_point _ c.in_default.ensures) c.with_more-number.ensures (omega arith)

pub returns-in_default-clause-short : goal.returns-in_default-clause-short
returns-in_default-clause-short c = l.whole_short _ _ _ _ c.digits.ensures.cut c.digits.ensures.run c.with_more-number.ensures (omega arith) (l.no_point _ c.in_default.ensures)

pub returns-then-part-eq0-clause-token : goal.returns-then-part-eq0-clause-token
returns-then-part-eq0-clause-token c = l.whole_reads _ _ _ _ c.requires c.digits.ensures.cut c.digits.ensures.run
    (l.no_part _ _ _ _ c.in-Some.ensures c.digits-2.ensures.cut c.digits-2.ensures.run c.if-part-eq0.true) c.with_more-number.ensures (omega arith)

pub returns-then-part-eq0-clause-short : goal.returns-then-part-eq0-clause-short
returns-then-part-eq0-clause-short c = l.whole_short _ _ _ _ c.digits.ensures.cut c.digits.ensures.run c.with_more-number.ensures (omega arith)
    (l.no_part _ _ _ _ c.in-Some.ensures c.digits-2.ensures.cut c.digits-2.ensures.run c.if-part-eq0.true)

pub returns-then-part-gt6-clause-token : goal.returns-then-part-gt6-clause-token
returns-then-part-gt6-clause-token c = elim c.then-part-gt6.branch [
  | then-part-gt6-via-then-part-gt6 w ↦ l.long_decimals _ _ _ _ _ _ _ _ c.requires c.digits.ensures.cut c.digits.ensures.run c.in-Some.ensures c.digits-2.ensures.cut c.digits-2.ensures.run c.if-part-eq0.false c.with_more-number.ensures c.with_more-units.ensures (omega arith)
  | then-part-gt6-via-else-part-gt6+then-units-gt-NUMBER_LIMIT w ↦ l.long_units _ _ _ _ _ _ _ _ c.requires c.digits.ensures.cut c.digits.ensures.run c.in-Some.ensures c.digits-2.ensures.cut c.digits-2.ensures.run c.if-part-eq0.false c.with_more-number.ensures c.with_more-units.ensures (omega arith)
]

pub returns-then-part-gt6-clause-short : goal.returns-then-part-gt6-clause-short
returns-then-part-gt6-clause-short c = elim c.then-part-gt6.branch [
  | then-part-gt6-via-then-part-gt6 w ↦ l.long_decimals _ _ _ _ _ _ _ _ c.requires c.digits.ensures.cut c.digits.ensures.run c.in-Some.ensures c.digits-2.ensures.cut c.digits-2.ensures.run c.if-part-eq0.false c.with_more-number.ensures c.with_more-units.ensures (omega arith)
  | then-part-gt6-via-else-part-gt6+then-units-gt-NUMBER_LIMIT w ↦ l.long_units _ _ _ _ _ _ _ _ c.requires c.digits.ensures.cut c.digits.ensures.run c.in-Some.ensures c.digits-2.ensures.cut c.digits-2.ensures.run c.if-part-eq0.false c.with_more-number.ensures c.with_more-units.ensures (omega arith)
]

pub returns-clause-token : goal.returns-clause-token
returns-clause-token c = l.decimal_reads _ _ _ _ _ _ _ _ c.requires c.digits.ensures.cut c.digits.ensures.run c.in-Some.ensures c.digits-2.ensures.cut c.digits-2.ensures.run c.if-part-eq0.false c.with_more-number.ensures c.with_more-units.ensures _ refl (omega arith) (omega arith)

pub returns-clause-short : goal.returns-clause-short
returns-clause-short c = l.decimal_short _ _ _ _ _ _ _ _ c.requires c.digits.ensures.cut c.digits.ensures.run c.in-Some.ensures c.digits-2.ensures.cut c.digits-2.ensures.run c.if-part-eq0.false c.with_more-number.ensures c.with_more-units.ensures (omega arith) (omega arith) (omega arith)
