use Rattle.std.specs.Arc.{arc_value}
use Rattle.sp_intake.specs.RowsSeen.{rows_at}
use Rattle.sp_intake.proofs.AllGiven.{reads_input}
use Rattle.sp_intake.proofs.input.read_input.Goals as goal

pub returns : goal.returns
returns g c =
    let q = arc_value c.args.plan.now in
    let first = rows_at (g.S.Source.state c.args.input.now) c.in_ok-rows.rows in
    let last = rows_at (g.S.Source.state c.read_all.new.input) c.read_all.new.rows in
    reads_input q c.requires.compiled.time first last (c.in_ok-rows.ensures.since first.source c.requires.not_ended) c.read_all.result c.read_all.ensures.all
