use Rattle.std.proofs.Common.{◌≡◌, ap, Some, None}
use Rattle.sp_io.specs.Outside.{SourceState, SinkState}
use Rattle.sp_io.specs.ByteSource.{source_state, used_up}
use Rattle.sp_gen.specs.Generated.{generated}
use Rattle.sp_answer.specs.Ran.{Outside, outside}
use Rattle.sp_cli.specs.Commands.{speed_seen}
use Rattle.sp_top.proofs.Drilling.{quiet, rows_done, rows_reported}
use Rattle.sp_top.proofs.drill.run_rows.Goals as goal

pub returns-in-Ok-clause-status : goal.returns-in-Ok-clause-status
returns-in-Ok-clause-status g c =
    let told : (source_state c.in-Ok.task.rows).left ≡ Some (generated c.args.events c.args.seed) = ap (λ (s : SourceState). s.left) c.in-Ok.ensures.rows in
    let sink : SinkState = record { held = None; faults = 0 } in
    let old : Outside = outside (source_state c.in-Ok.task.rows) sink in
    let new : Outside = outside (source_state c.run_plan.new.input) sink in
    rows_done c.loose_is_reading.ensures c.rows_stay.ensures c.drill_query_has_plan.ensures c.generated_rows_are_read.ensures c.in-Ok.task.plan c.in-Ok.ensures.plan.is_plan.compiled c.in-Ok.ensures.plan c.args.events c.args.seed c.requires.few old new told quiet quiet (used_up c.run_plan.new.input)
    c.run_plan.result.status c.run_plan.ensures.ran

pub returns-in-Ok-clause-report : goal.returns-in-Ok-clause-report
returns-in-Ok-clause-report g c =
    let told : (source_state c.in-Ok.task.rows).left ≡ Some (generated c.args.events c.args.seed) = ap (λ (s : SourceState). s.left) c.in-Ok.ensures.rows in
    let sink : SinkState = record { held = None; faults = 0 } in
    let old : Outside = outside (source_state c.in-Ok.task.rows) sink in
    let new : Outside = outside (source_state c.run_plan.new.input) sink in
    rows_reported c.loose_is_reading.ensures c.rows_stay.ensures c.drill_query_has_plan.ensures c.generated_rows_are_read.ensures c.in-Ok.task.plan c.in-Ok.ensures.plan.is_plan.compiled c.in-Ok.ensures.plan c.args.events c.args.seed c.requires.few old new told quiet quiet (used_up c.run_plan.new.input)
    c.run_plan.result.status c.run_plan.ensures.ran (speed_seen c.args.speed.now) c.run_plan.result.ended c.run_plan.ensures.report
