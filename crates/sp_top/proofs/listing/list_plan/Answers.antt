use Rattle.std.proofs.Common.{Some, [], List, ap, refl, sym, subst, ◌∙◌}
use Rattle.std.specs.Arc.{arc_value}
use Rattle.sp_plan.specs.declared.event.Event.{Event}
use Rattle.sp_plan.specs.declared.plan.Plan.{Plan}
use Rattle.sp_plan.specs.Sequential.{whole}
use Rattle.sp_intake.proofs.Gave.{gave_none}
use Rattle.sp_ports.specs.Giving.{AreGood}
use Rattle.sp_ports.specs.Stopping.{is_end}
use Rattle.sp_answer.specs.Outcome.{ending}
use Rattle.sp_answer.specs.Ran.{Outside, outside, Ran}
use Rattle.sp_answer.specs.Written.{WritesText}
use Rattle.sp_answer.specs.declared.status.Status.TheVariants.{Memory}
use Rattle.sp_cli.specs.Commands.{speed_seen}
use Rattle.sp_commands.specs.Commands.{lateness}
use Rattle.sp_commands.specs.Ends.{came_within}
use Rattle.sp_commands.specs.Run.{proofs_text, IsPlanTold}
use Rattle.sp_commands.proofs.Came.{within_open}
use Rattle.sp_commands.proofs.ReadAndWritten.{ran_written}
use Rattle.sp_commands.proofs.Running.{none_in_time, unread}
use Rattle.sp_top.specs.Report.{ReportsPlan, WhereDone}
use Rattle.sp_top.specs.declared.workshop.CommandEnd.{CommandEnd}
use Rattle.sp_top.proofs.Listed.{reports_listed}
use Rattle.sp_top.proofs.listing.list_plan.Goals as goal

pub write_listing-written-requires-clause-good : goal.write_listing-written-requires-clause-good
write_listing-written-requires-clause-good g c κs within =
    subst (AreGood (arc_value c.in-Ok.plan)) (sym c.in-Ok-drive_events.ensures.given) c.in-Ok-read_events.ensures.good

pub write_listing-written-requires-clause-found : goal.write_listing-written-requires-clause-found
write_listing-written-requires-clause-found g c κs within =
    let over = c.in-Ok-drive_events.ensures in
    over.found ∙ ap (λ (xs : List Event). (whole (arc_value c.in-Ok.plan) xs (is_end c.in-Ok-read_events.given.stop)).matches) (sym over.given)

pub returns-in_default-clause-ran : goal.returns-in_default-clause-ran
returns-in_default-clause-ran g c =
    let q = c.args.plan in
    let l = lateness c.args.manner.late.slack c.args.manner.late.rule in
    let state = g.S.Source.state c.args.input.now in
    let old : Outside = outside state (g.K.Sink.state c.args.out.now) in
    subst (λ (a : CommandEnd _ _). Ran (IsPlanTold proofs_text q l) old old (ending a.status)) (sym c.of.ensures)
    (unread (came_within q l) (proofs_text q) old old [] (gave_none state.left) (none_in_time (came_within q l) (within_open q l [] refl)) refl)

pub returns-in_default-read_events-clause-ran : goal.returns-in_default-read_events-clause-ran
returns-in_default-read_events-clause-ran g c =
    let l = lateness c.args.manner.late.slack c.args.manner.late.rule in
    let p = arc_value c.in-Ok.plan in
    let brings = c.read_events.ensures in
    let old : Outside = outside (g.S.Source.state c.args.input.now) (g.K.Sink.state c.args.out.now) in
    let new : Outside = outside (g.S.Source.state c.read_events.new.input) (g.K.Sink.state c.args.out.now) in
    subst (λ (a : CommandEnd _ _). Ran (IsPlanTold proofs_text c.args.plan l) old new (ending a.status)) (sym c.of-in_default-read_events.ensures)
    (subst (λ (q : Plan). Ran (IsPlanTold proofs_text q l) old new (ending Memory)) c.in-Ok.ensures (unread (came_within p l) (proofs_text p) old new brings.taken brings.gave brings.no_further refl))

pub returns-in_default-drive_events-clause-ran : goal.returns-in_default-drive_events-clause-ran
returns-in_default-drive_events-clause-ran g c =
    let l = lateness c.args.manner.late.slack c.args.manner.late.rule in
    let p = arc_value c.in-Ok.plan in
    let brings = c.read_events.ensures in
    let old : Outside = outside (g.S.Source.state c.args.input.now) (g.K.Sink.state c.args.out.now) in
    let new : Outside = outside (g.S.Source.state c.read_events.new.input) (g.K.Sink.state c.args.out.now) in
    subst (λ (a : CommandEnd _ _). Ran (IsPlanTold proofs_text c.args.plan l) old new (ending a.status)) (sym c.of-in_default-drive_events.ensures)
    (subst (λ (q : Plan). Ran (IsPlanTold proofs_text q l) old new (ending Memory)) c.in-Ok.ensures (unread (came_within p l) (proofs_text p) old new brings.taken brings.gave brings.no_further refl))

pub returns-clause-ran : goal.returns-clause-ran
returns-clause-ran g c =
    let l = lateness c.args.manner.late.slack c.args.manner.late.rule in
    let p = arc_value c.in-Ok.plan in
    let given = c.in-Ok-read_events.given in
    let old : Outside = outside (g.S.Source.state c.args.input.now) (g.K.Sink.state c.args.out.now) in
    let new : Outside = outside (g.S.Source.state c.read_events.new.input) (g.K.Sink.state c.write_listing-written.new.out) in
    let writes =
    subst (λ (xs : List Event). WritesText (proofs_text p xs given.stop) (g.K.Sink.state c.args.out.now) (g.K.Sink.state c.write_listing-written.new.out) c.write_listing-written.result)
    c.in-Ok-drive_events.ensures.given c.write_listing-written.ensures in
    subst (λ (q : Plan). Ran (IsPlanTold proofs_text q l) old new (ending c.written_status.result)) c.in-Ok.ensures
    (ran_written proofs_text p l old new given c.in-Ok-read_events.ensures c.write_listing-written.result writes c.written_status.result c.written_status.ensures)

pub returns-clause-report : goal.returns-clause-report
returns-clause-report g c =
    let l = lateness c.args.manner.late.slack c.args.manner.late.rule in
    let speed = speed_seen c.args.manner.speed.now in
    let old = g.S.Source.state c.args.input.now in
    let new = g.S.Source.state c.read_events.new.input in
    subst (λ (q : Plan). WhereDone (ReportsPlan q l speed old.left new.left) c.written_status.result (Some c.in-Ok-drive_events.ended)) c.in-Ok.ensures
    (reports_listed (arc_value c.in-Ok.plan) l speed old new c.in-Ok-read_events.given c.in-Ok-read_events.ensures c.in-Ok-drive_events.ended c.in-Ok-drive_events.ensures
    c.write_listing-written.result c.written_status.result c.written_status.ensures)
