use Rattle.std.proofs.Common.{◌≡◌, ℤ, false, sym, subst, arith, to_z, of_z, w64}
use Rattle.std.proofs.lemmas.Int.{ints, to_z-of_z}
use Rattle.std.specs.Arc.{arc_value}
use Rattle.sp_io.specs.Outside.{SourceState}
use Rattle.sp_intake.specs.Asked.{standing, IsFresh, IsUnasked, IsFreshWithin, IsUnaskedWithin}
use Rattle.sp_intake.specs.Loose.{Lateness}
use Rattle.sp_intake.specs.LooseLaws.{punctual}
use Rattle.sp_commands.specs.Commands.{lateness}
use Rattle.sp_top.specs.Coming.{ComesFrom, AsksInTime}
use Rattle.sp_top.proofs.Coming.{if_made, comes_in_order, asks_in_order, comes_strictly, asks_strictly}
use Rattle.sp_top.proofs.run.reader_of.Goals as goal

pub returns-then-is_punctual-clause-fresh : goal.returns-then-is_punctual-clause-fresh
returns-then-is_punctual-clause-fresh c =
    let q = arc_value c.args.plan.now in
    let l : Lateness = lateness c.args.late.slack c.args.late.rule in
    let own : l ≡ punctual = c.is_punctual.ensures c.if-is_punctual.true in
    if_made (IsFresh q) (λ events. (source : SourceState) → source.ended ≡ false → ComesFrom q l source (standing source events)) c.new.result
    (λ events fresh source opens.
    subst (λ (m : Lateness). ComesFrom q m source (standing source events)) (sym own) (comes_strictly c.loose_is_reading.ensures q c.requires.compiled source (standing source events) (fresh source opens)))
    c.new.ensures.fresh

pub returns-then-is_punctual-clause-unasked : goal.returns-then-is_punctual-clause-unasked
returns-then-is_punctual-clause-unasked c =
    let q = arc_value c.args.plan.now in
    let l : Lateness = lateness c.args.late.slack c.args.late.rule in
    let own : l ≡ punctual = c.is_punctual.ensures c.if-is_punctual.true in
    if_made (IsUnasked q) (λ events. (source : SourceState) → source.ended ≡ false → AsksInTime q l source (standing source events)) c.new.result
    (λ events fresh source opens.
    subst (λ (m : Lateness). AsksInTime q m source (standing source events)) (sym own) (asks_strictly c.loose_is_reading.ensures q c.requires.compiled source (standing source events) (fresh source opens)))
    c.new.ensures.unasked

pub returns-clause-fresh : goal.returns-clause-fresh
returns-clause-fresh c =
    let q = arc_value c.args.plan.now in
    let l : Lateness = lateness c.args.late.slack c.args.late.rule in
    let read : Lateness = lateness (to_z w64 (of_z w64 c.args.late.slack)) c.args.late.rule in
    let itself : to_z w64 (of_z w64 c.args.late.slack) ≡ c.args.late.slack = to_z-of_z w64 c.args.late.slack (omega (arith, ints, c.requires.low, c.requires.high)) in
    if_made (IsFreshWithin q read) (λ events. (source : SourceState) → source.ended ≡ false → ComesFrom q l source (standing source events)) c.within.result
    (λ events fresh source opens.
    subst (λ (s : ℤ). ComesFrom q (lateness s c.args.late.rule) source (standing source events)) itself (comes_in_order q read source (standing source events) (fresh source opens)))
    c.within.ensures.fresh

pub returns-clause-unasked : goal.returns-clause-unasked
returns-clause-unasked c =
    let q = arc_value c.args.plan.now in
    let l : Lateness = lateness c.args.late.slack c.args.late.rule in
    let read : Lateness = lateness (to_z w64 (of_z w64 c.args.late.slack)) c.args.late.rule in
    let itself : to_z w64 (of_z w64 c.args.late.slack) ≡ c.args.late.slack = to_z-of_z w64 c.args.late.slack (omega (arith, ints, c.requires.low, c.requires.high)) in
    if_made (IsUnaskedWithin q read) (λ events. (source : SourceState) → source.ended ≡ false → AsksInTime q l source (standing source events)) c.within.result
    (λ events fresh source opens.
    subst (λ (s : ℤ). AsksInTime q (lateness s c.args.late.rule) source (standing source events)) itself (asks_in_order q read source (standing source events) (fresh source opens)))
    c.within.ensures.unasked
