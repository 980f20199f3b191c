use Rattle.std.proofs.Common.{Err, ap, sym, subst}
use Rattle.sp_load.specs.Places.{place_of}
use Rattle.sp_answer.specs.Outcome.{ending}
use Rattle.sp_answer.specs.Promise.{filed}
use Rattle.sp_answer.specs.Ran.{Outside, outside}
use Rattle.sp_commands.specs.Graph.{TextsOutcome, runs}
use Rattle.sp_commands.proofs.Graphing.{graph_refused, graph_served}
use Rattle.sp_top.proofs.graph.graph.Goals as goal

pub returns-in-Ok : goal.returns-in-Ok
returns-in-Ok g c =
    let before = filed (g.F.Files.held c.args.files.now) (g.F.Files.faults c.args.files.now) in
    let after = filed (g.F.Files.held c.graph_task.new.files) (g.F.Files.faults c.graph_task.new.files) in
    let old : Outside = outside (g.S.Source.state c.args.input.now) (g.K.Sink.state c.args.out.now) in
    let new : Outside = outside (g.S.Source.state c.run_graph.new.input) (g.K.Sink.state c.run_graph.new.out) in
    let texts = c.args.asked.texts in
    let task = c.in-Ok.task in
    let is = c.in-Ok.ensures.task in
    graph_served (place_of texts.place) texts.second.now texts.returns.now before after old c.in-Ok.ensures.held new task.first task.second task.returns.items is.first is.stands is.short_second is.short_returns
    (λ b e o so. subst (TextsOutcome is.first texts.second.now texts.returns.now b e) (sym so) (runs task.first task.second task.returns.items is.are.first_is is.are.second_is is.are.returns_are))
    (c.in-Ok.ensures.no_fault (λ e. cc e)) (ending c.run_graph.result) c.run_graph.ensures

pub returns-in-Err : goal.returns-in-Err
returns-in-Err g c =
    let before = filed (g.F.Files.held c.args.files.now) (g.F.Files.faults c.args.files.now) in
    let after = filed (g.F.Files.held c.graph_task.new.files) (g.F.Files.faults c.graph_task.new.files) in
    let old : Outside = outside (g.S.Source.state c.args.input.now) (g.K.Sink.state c.args.out.now) in
    let texts = c.args.asked.texts in
    graph_refused (place_of texts.place) texts.second.now texts.returns.now before after old c.in-Err.ensures.held c.in-Err.status c.in-Err.ensures.refused
    (λ e. c.in-Err.ensures.fault (ap Err e)) (λ no. c.in-Err.ensures.no_fault (λ e. no (cc e)))
