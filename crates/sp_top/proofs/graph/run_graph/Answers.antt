use Rattle.std.proofs.Common.{List, ℕ, subst, refl, ◌∙◌}
use Rattle.std.specs.Arc.{arc_value}
use Rattle.sp_plan.specs.Lines.{text}
use Rattle.sp_plan.specs.declared.plan.Plan.{Plan}
use Rattle.sp_answer.specs.Outcome.{ending}
use Rattle.sp_answer.specs.Ran.{Outside, outside, Ran}
use Rattle.sp_answer.specs.Written.{WritesText}
use Rattle.sp_answer.specs.declared.status.Status.TheVariants.{Memory}
use Rattle.sp_commands.specs.Graph.{IsPlanGraph}
use Rattle.sp_commands.proofs.Graphing.{graph_ran, graph_short, graph_unread}
use Rattle.sp_top.proofs.graph.run_graph.Goals as goal

pub returns-in_default : goal.returns-in_default
returns-in_default g c = graph_unread c.args.task.first c.args.task.returns.items c.args.task.second (outside (g.S.Source.state c.args.input.now) (g.K.Sink.state c.args.out.now))

pub returns-in_default-shared : goal.returns-in_default-shared
returns-in_default-shared g c = graph_unread c.args.task.first c.args.task.returns.items c.args.task.second (outside (g.S.Source.state c.args.input.now) (g.K.Sink.state c.args.out.now))

pub returns-in_default-read_named : goal.returns-in_default-read_named
returns-in_default-read_named g c =
    let own = c.args.task.returns.items in
    let p = c.args.task.second in
    let old : Outside = outside (g.S.Source.state c.args.input.now) (g.K.Sink.state c.args.out.now) in
    let new : Outside = outside (g.S.Source.state c.read_named.new.input) (g.K.Sink.state c.args.out.now) in
    subst (λ (q : Plan). Ran (IsPlanGraph q own p) old new (ending Memory)) c.in-Ok.ensures (graph_short (arc_value c.in-Ok.first) own p old new c.read_named.result c.read_named.ensures refl)

pub returns-in_default-feed_second : goal.returns-in_default-feed_second
returns-in_default-feed_second g c =
    let own = c.args.task.returns.items in
    let p = c.args.task.second in
    let old : Outside = outside (g.S.Source.state c.args.input.now) (g.K.Sink.state c.args.out.now) in
    let new : Outside = outside (g.S.Source.state c.read_named.new.input) (g.K.Sink.state c.args.out.now) in
    subst (λ (q : Plan). Ran (IsPlanGraph q own p) old new (ending Memory)) c.in-Ok.ensures (graph_short (arc_value c.in-Ok.first) own p old new c.read_named.result c.read_named.ensures refl)

pub returns-in_default-drive_events : goal.returns-in_default-drive_events
returns-in_default-drive_events g c =
    let own = c.args.task.returns.items in
    let p = c.args.task.second in
    let old : Outside = outside (g.S.Source.state c.args.input.now) (g.K.Sink.state c.args.out.now) in
    let new : Outside = outside (g.S.Source.state c.read_named.new.input) (g.K.Sink.state c.args.out.now) in
    subst (λ (q : Plan). Ran (IsPlanGraph q own p) old new (ending Memory)) c.in-Ok.ensures (graph_short (arc_value c.in-Ok.first) own p old new c.read_named.result c.read_named.ensures refl)

pub returns : goal.returns
returns g c =
    let own = c.args.task.returns.items in
    let q = arc_value c.in-Ok.first in
    let p = arc_value c.in-Ok-shared.second in
    let given = c.in-Ok-feed_second.fed.given in
    let old : Outside = outside (g.S.Source.state c.args.input.now) (g.K.Sink.state c.args.out.now) in
    let new : Outside = outside (g.S.Source.state c.read_named.new.input) (g.K.Sink.state c.write_lines-written.new.out) in
    let writes =
    subst (λ (l : List ℕ). WritesText l old.out new.out c.write_lines-written.result) (λ i. text (c.deref.ensures i) ((c.emitted.ensures.matches ∙ c.in-Ok-drive_events.ensures.found) i)) c.write_lines-written.ensures in
    let ran = graph_ran q own p old new c.in-Ok-read_named.named c.in-Ok-read_named.ensures given c.in-Ok-feed_second.ensures.given c.write_lines-written.result writes c.written_status.result c.written_status.ensures in
    subst (λ (first : Plan). Ran (IsPlanGraph first own c.args.task.second) old new (ending c.written_status.result)) c.in-Ok.ensures
    (subst (λ (second : Plan). Ran (IsPlanGraph q own second) old new (ending c.written_status.result)) c.in-Ok-shared.ensures ran)
