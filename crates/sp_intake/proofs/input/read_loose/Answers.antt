use Rattle.std.proofs.Common.{◌≡◌, ℤ, [], Ok, refl, subst, arith, to_z, of_z, w64}
use Rattle.std.proofs.lemmas.Int.{ints, to_z-of_z}
use Rattle.std.specs.Arc.{arc_value}
use Rattle.sp_intake.specs.RowsSeen.{rows_at}
use Rattle.sp_intake.specs.Loose.{Lateness}
use Rattle.sp_intake.specs.ReadAll.{ReadsAll}
use Rattle.sp_intake.specs.Standing.{Since}
use Rattle.sp_intake.proofs.AllGiven.{loose_read, loose_short}
use Rattle.sp_intake.proofs.input.read_loose.Goals as goal

pub returns-in_err-events : goal.returns-in_err-events
returns-in_err-events g c =
    let q = arc_value c.args.plan.now in
    let l : Lateness = record { slack = c.args.slack; rule = c.args.rule } in
    let first = rows_at (g.S.Source.state c.args.input.now) c.in_ok-rows.rows in
    let last = rows_at (g.S.Source.state c.read_all.new.input) c.read_all.new.rows in
    let itself : to_z w64 (of_z w64 c.args.slack) ≡ c.args.slack = to_z-of_z w64 c.args.slack (omega (arith, ints, c.requires.low, c.requires.high)) in
    let since : Since q l first.source [] [] first = subst (λ (s : ℤ). Since q (record { slack = s; rule = c.args.rule }) first.source [] [] first) itself (c.in_ok-rows.ensures.since first.source c.requires.not_ended) in
    loose_short q l c.requires.compiled.time first last since c.read_all.result c.read_all.ensures.all c.from_residual-in_err-events.result c.from_residual-in_err-events.ensures.0

pub returns : goal.returns
returns g c =
    let q = arc_value c.args.plan.now in
    let l : Lateness = record { slack = c.args.slack; rule = c.args.rule } in
    let first = rows_at (g.S.Source.state c.args.input.now) c.in_ok-rows.rows in
    let last = rows_at (g.S.Source.state c.read_all.new.input) c.read_all.new.rows in
    let itself : to_z w64 (of_z w64 c.args.slack) ≡ c.args.slack = to_z-of_z w64 c.args.slack (omega (arith, ints, c.requires.low, c.requires.high)) in
    let since : Since q l first.source [] [] first = subst (λ (s : ℤ). Since q (record { slack = s; rule = c.args.rule }) first.source [] [] first) itself (c.in_ok-rows.ensures.since first.source c.requires.not_ended) in
    let given = c.in_ok-events.field-0 in
    let all : ReadsAll first last (Ok given) = c.in_ok-events.ensures.all in
    loose_read q l c.requires.compiled.time first last since given (record { events = given.events; late = c.late-late.result; stop = given.stop }) all refl c.late-late.ensures refl
