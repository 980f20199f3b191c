use Rattle.std.proofs.Common.{sym, subst}
use Rattle.std.specs.Prelude.{Option}
use Rattle.sp_cli.specs.Commands.{speed_seen}
use Rattle.sp_split.specs.declared.ended.Ended.{Ended}
use Rattle.sp_top.specs.Report.{ReportsDrill, WhereDone}
use Rattle.sp_top.proofs.Drilling.{can_sum, drill_made, drill_reported}
use Rattle.sp_top.proofs.drill.drill.Goals as goal

pub sum_up-requires-clause-ran : goal.sum_up-requires-clause-ran
sum_up-requires-clause-ran g c κs within =
    let ran = c.run_rows-answer in
    can_sum c.drill_query_has_plan.ensures c.generated_rows_are_read.ensures c.args.events c.args.seed c.requires.few (speed_seen c.args.speed.now) ran.result.status ran.result.ended ran.ensures.report

pub returns-clause-made : goal.returns-clause-made
returns-clause-made g c input =
    let ran = c.run_rows-answer in
    drill_made c.drill_query_has_plan.ensures c.generated_rows_are_read.ensures c.args.events c.args.seed c.requires.few (speed_seen c.args.speed.now) ran.result.status ran.result.ended ran.ensures.status ran.ensures.report
    (g.K.Sink.state c.args.out.now) (g.K.Sink.state c.sum_up.new.out) c.sum_up.new.answer.status c.sum_up.ensures.status input

pub returns-clause-report : goal.returns-clause-report
returns-clause-report g c =
    let ran = c.run_rows-answer in
    subst (λ (o : Option (Ended _ _)). WhereDone (ReportsDrill c.args.events c.args.seed (speed_seen c.args.speed.now)) c.sum_up.new.answer.status o) (sym c.sum_up.ensures.ended)
    (drill_reported c.drill_query_has_plan.ensures c.generated_rows_are_read.ensures c.args.events c.args.seed c.requires.few (speed_seen c.args.speed.now) ran.result.status ran.result.ended ran.ensures.status ran.ensures.report
    (g.K.Sink.state c.args.out.now) (g.K.Sink.state c.sum_up.new.out) c.sum_up.new.answer.status c.sum_up.ensures.status)
