use Rattle.std.proofs.Common.{◌≡◌, ℤ, [], ◌∙◌, sym, ap, subst, arith, to_z, of_z, w64}
use Rattle.std.proofs.lemmas.Int.{ints, to_z-of_z}
use Rattle.std.specs.Arc.{arc_value}
use Rattle.sp_intake.specs.declared.held.Held as declared
use Rattle.sp_intake.specs.Loose.{Lateness}
use Rattle.sp_intake.specs.RowsSeen.{reader_of, rows_at, held_of}
use Rattle.sp_intake.specs.Standing.{Holds, Since}
use Rattle.sp_intake.proofs.HoldingBack.{holds_new}
use Rattle.sp_intake.proofs.InOrder.{reads_in_order, asks_in_order}
use Rattle.sp_intake.proofs.events.EventReader.within.Goals as goal

pub invariant_of-result : goal.invariant_of-result
invariant_of-result c =
    let rows = c.in_ok-rows.rows in
    let made = c.new-held.ensures in
    let fresh = c.in_ok-rows.ensures in
    record {
      on_time = λ is. absurd (cc is);
      holds = λ own is.
          let same : c.new-held.result ≡ own = cc is in
          subst (λ (h : declared.Held). Holds (reader_of rows) rows.state (held_of h)) same
          (holds_new (reader_of rows) rows.state (held_of c.new-held.result) made.stands made.none made.going made.untold (made.slack ∙ sym (ap (λ (l : Lateness). l.slack) fresh.lateness)) fresh.state fresh.given fresh.greatest);
    }

pub returns-clause-fresh : goal.returns-clause-fresh
returns-clause-fresh c source opens =
    let q = arc_value c.args.plan.now in
    let l : Lateness = record { slack = c.args.slack; rule = c.args.rule } in
    let first = rows_at source c.in_ok-rows.rows in
    let itself : to_z w64 (of_z w64 c.args.slack) ≡ c.args.slack = to_z-of_z w64 c.args.slack (omega (arith, ints, c.requires.low, c.requires.high)) in
    let since : Since q l source [] [] first = subst (λ (s : ℤ). Since q (record { slack = s; rule = c.args.rule }) source [] [] first) itself (c.in_ok-rows.ensures.since source opens) in
    reads_in_order q l c.requires.compiled.time first (held_of c.new-held.result) since c.new-held.ensures.stands (c.new-held.ensures.slack ∙ itself)

pub returns-clause-unasked : goal.returns-clause-unasked
returns-clause-unasked c source opens =
    let q = arc_value c.args.plan.now in
    let l : Lateness = record { slack = c.args.slack; rule = c.args.rule } in
    let first = rows_at source c.in_ok-rows.rows in
    let itself : to_z w64 (of_z w64 c.args.slack) ≡ c.args.slack = to_z-of_z w64 c.args.slack (omega (arith, ints, c.requires.low, c.requires.high)) in
    let since : Since q l source [] [] first = subst (λ (s : ℤ). Since q (record { slack = s; rule = c.args.rule }) source [] [] first) itself (c.in_ok-rows.ensures.since source opens) in
    asks_in_order q l c.requires.compiled.time first (held_of c.new-held.result) since c.new-held.ensures.stands (c.new-held.ensures.slack ∙ itself)
