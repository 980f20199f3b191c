use Rattle.std.specs.Arc.{arc_value}
use Rattle.sp_intake.specs.RowsSeen.{rows_at}
use Rattle.sp_intake.proofs.Asking.{asks_from, reads_from}
use Rattle.sp_intake.proofs.events.EventReader.new.Goals as goal

pub returns-clause-fresh : goal.returns-clause-fresh
returns-clause-fresh c source opens =
    reads_from (arc_value c.args.plan.now) c.requires.time (rows_at source c.in_ok-rows.rows) (c.in_ok-rows.ensures.since source opens)

pub returns-clause-unasked : goal.returns-clause-unasked
returns-clause-unasked c source opens =
    asks_from (arc_value c.args.plan.now) c.requires.time (rows_at source c.in_ok-rows.rows) (c.in_ok-rows.ensures.since source opens)
