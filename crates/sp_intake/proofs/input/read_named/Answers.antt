use Rattle.std.proofs.Common.{Ok}
use Rattle.std.specs.Arc.{arc_value}
use Rattle.sp_intake.specs.ReadAll.{ReadsAll}
use Rattle.sp_intake.specs.RowsSeen.{rows_at}
use Rattle.sp_intake.proofs.AllGiven.{named_short, reads_named}
use Rattle.sp_intake.proofs.input.read_named.Goals as goal

pub returns-in_err-events : goal.returns-in_err-events
returns-in_err-events g c =
    let q = arc_value c.args.plan.now in
    let first = rows_at (g.S.Source.state c.args.input.now) c.in_ok-rows.rows in
    let last = rows_at (g.S.Source.state c.read_all.new.input) c.read_all.new.rows in
    let since = c.in_ok-rows.ensures.since first.source c.requires.not_ended in
    named_short q c.requires.compiled.time first last since c.read_all.result c.read_all.ensures.all c.from_residual-in_err-events.result c.from_residual-in_err-events.ensures.0

pub returns-in_err-texts : goal.returns-in_err-texts
returns-in_err-texts g c =
    let q = arc_value c.args.plan.now in
    let first = rows_at (g.S.Source.state c.args.input.now) c.in_ok-rows.rows in
    let last = rows_at (g.S.Source.state c.read_all.new.input) c.read_all.new.rows in
    let since = c.in_ok-rows.ensures.since first.source c.requires.not_ended in
    named_short q c.requires.compiled.time first last since c.read_all.result c.read_all.ensures.all c.from_residual-in_err-texts.result c.from_residual-in_err-texts.ensures.0

pub returns : goal.returns
returns g c =
    let q = arc_value c.args.plan.now in
    let first = rows_at (g.S.Source.state c.args.input.now) c.in_ok-rows.rows in
    let last = rows_at (g.S.Source.state c.read_all.new.input) c.read_all.new.rows in
    let given = c.in_ok-events.field-0 in
    let all : ReadsAll first last (Ok given) = c.in_ok-events.ensures.all in
    reads_named q c.requires.compiled.time first last (c.in_ok-rows.ensures.since first.source c.requires.not_ended) given all c.in_ok-texts.texts c.in_ok-texts.ensures
