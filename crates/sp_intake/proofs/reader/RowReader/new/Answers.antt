use Rattle.std.proofs.Common.{◌≡◌, ℤ, refl, ◌∙◌, ap, arith, to_z, of_z, w64}
use Rattle.std.proofs.lemmas.Int.{ints, to_z-of_z}
use Rattle.std.specs.Arc.{arc_value}
use Rattle.sp_rows.specs.Rows.{start}
use Rattle.sp_intake.specs.Loose.{Lateness}
use Rattle.sp_intake.specs.Reader.{Reader}
use Rattle.sp_intake.proofs.Since.{unread}
use Rattle.sp_rows.specs.Progress.{read_of}
use Rattle.sp_intake.specs.Latest.{latest_of}
use Rattle.sp_intake.proofs.reader.RowReader.new.Goals as goal

pub returns-clause-since : goal.returns-clause-since
returns-clause-since c source opens =
    let q = arc_value c.args.plan.now in
    let l : Lateness = record { slack = c.args.slack; rule = c.args.rule } in
    let same = c.in_ok-try_clone.ensures in
    let made = c.in_ok-loose.ensures in
    let slack = to_z w64 (of_z w64 c.args.slack) in
    let itself : slack ≡ c.args.slack = to_z-of_z w64 c.args.slack (omega (arith, ints, c.requires.low, c.requires.high)) in
    let own : Lateness = record { slack = slack; rule = c.args.rule } in
    let reader : Reader = record { cutter = c.new.result; rows = c.in_ok-loose.field-0; count = (read_of c.in_ok-loose.field-0).read; given = 0; late = 0; greatest = latest_of c.none.result.time; lateness = own } in
    unread q l source reader opens (record {
      plan = made.plan ∙ same;
      rows = made.start ∙ ap start same;
      cutter = c.new.ensures;
      given = refl;
      late = refl;
      greatest = c.none.ensures;
      lateness = ap (λ (s : ℤ). record { slack = s; rule = c.args.rule }) itself;
    })
