use Rattle.std.proofs.Common.{Some, ap, subst, sym, ◌∙◌}
use Rattle.sp_core.specs.Running.{Running}
use Rattle.sp_split.specs.declared.ended.Why.{Why}
use Rattle.sp_split.specs.Relieving.{AreDue}
use Rattle.sp_split.specs.Stopping.{IsThrough}
use Rattle.sp_split.proofs.Due.{due_first}
use Rattle.sp_split.proofs.Relieved.{relieved_then}
use Rattle.sp_split.proofs.Serves.{going_fresh, if_went, on_went, serves_by}
use Rattle.sp_split.proofs.Turns.{on_ok, serving_first}
use Rattle.sp_split.proofs.joining.with_instances.Goals as goal

pub serve_on-requires-clause-ready : goal.serve_on-requires-clause-ready
serve_on-requires-clause-ready g c κs within =
    let desk = c.args.serving.desk in
    let may = c.requires.may in
    serving_first desk.splitter.core may.fresh desk.splitter.instances desk.splitter.batch desk.splitter.kept.items desk.by desk.seat may.can may.free

pub serve_on-requires-clause-due : goal.serve_on-requires-clause-due
serve_on-requires-clause-due g c κs within = subst (AreDue c.args.serving.relay) (sym (ap (λ (d : Running). d.machine.finished) c.requires.may.fresh)) (due_first c.args.serving.relay c.requires.none)

pub serve_on-requires-clause-under_way : goal.serve_on-requires-clause-under_way
serve_on-requires-clause-under_way g c κs within =
    let a = c.args.ways.intake in
    let core = c.args.serving.desk.splitter.core in
    let s = g.O.Outlet.state c.args.ways.outlet in
    let first = going_fresh g.I.Intake.gave g.I.Intake.asked g.I.Intake.ended g.I.Intake.stops g.I.Intake.cause a core s c.args.serving.fed c.requires.begins c.requires.may.fresh (g.I.Intake.gave_none a) (g.I.Intake.asked_none a) in
    (a, core, s, c.requires.may.intake_plan, first)

pub serve_on-requires-clause-plan : goal.serve_on-requires-clause-plan
serve_on-requires-clause-plan g c κs within = c.requires.may.outlet_plan

pub beside-requires-clause-under_way : goal.beside-requires-clause-under_way
beside-requires-clause-under_way g c κs within =
    let a = c.args.ways.intake in
    let core = c.args.serving.desk.splitter.core in
    let s = g.O.Outlet.state c.args.ways.outlet in
    let first = going_fresh g.I.Intake.gave g.I.Intake.asked g.I.Intake.ended g.I.Intake.stops g.I.Intake.cause a core s c.args.serving.fed c.requires.begins c.requires.may.fresh (g.I.Intake.gave_none a) (g.I.Intake.asked_none a) in
    (a, core, s, c.requires.may.intake_plan, c.serve_on.ensures.stretched.goes c.in_default.is a core s first)

pub beside-requires-clause-plan : goal.beside-requires-clause-plan
beside-requires-clause-plan g c κs within =
    let a = c.args.ways.intake in
    let core = c.args.serving.desk.splitter.core in
    let s = g.O.Outlet.state c.args.ways.outlet in
    let first = going_fresh g.I.Intake.gave g.I.Intake.asked g.I.Intake.ended g.I.Intake.stops g.I.Intake.cause a core s c.args.serving.fed c.requires.begins c.requires.may.fresh (g.I.Intake.gave_none a) (g.I.Intake.asked_none a) in
    c.serve_on.ensures.same_out.0 ∙ c.requires.may.outlet_plan ∙ sym (c.serve_on.ensures.stretched.goes c.in_default.is a core s first).going.run.plan

pub returns-in_default-clause-served : goal.returns-in_default-clause-served
returns-in_default-clause-served g c =
    let a = c.args.ways.intake in
    let core = c.args.serving.desk.splitter.core in
    let s = g.O.Outlet.state c.args.ways.outlet in
    let first = going_fresh g.I.Intake.gave g.I.Intake.asked g.I.Intake.ended g.I.Intake.stops g.I.Intake.cause a core s c.args.serving.fed c.requires.begins c.requires.may.fresh (g.I.Intake.gave_none a) (g.I.Intake.asked_none a) in
    let served = c.beside.ensures.served a core s c.requires.may.intake_plan (c.serve_on.ensures.stretched.goes c.in_default.is a core s first) in
    rw (c.serve_on.ensures.terms.0, c.serve_on.ensures.terms.1) at served.0

pub returns-in_default-clause-relieved : goal.returns-in_default-clause-relieved
returns-in_default-clause-relieved g c =
    let old = c.args.serving in
    let mid = c.serve_on.new.serving in
    on_ok _ _ c.beside.result.1.end (λ more. relieved_then (λ one. (goal.Predictor-dyn g (one.vtable, one.value)).named one.value) (record { first = old.desk.splitter.predictor; relay = old.relay })
    (record { first = mid.desk.splitter.predictor; relay = mid.relay }) c.beside.result.1.team (c.serve_on.ensures.relieved c.in_default.is) more) c.beside.ensures.relieved

pub returns-in_default-clause-prompt : goal.returns-in_default-clause-prompt
returns-in_default-clause-prompt g c =
    let a = c.args.ways.intake in
    let core = c.args.serving.desk.splitter.core in
    let s = g.O.Outlet.state c.args.ways.outlet in
    let first = going_fresh g.I.Intake.gave g.I.Intake.asked g.I.Intake.ended g.I.Intake.stops g.I.Intake.cause a core s c.args.serving.fed c.requires.begins c.requires.may.fresh (g.I.Intake.gave_none a) (g.I.Intake.asked_none a) in
    (c.beside.ensures.served a core s c.requires.may.intake_plan (c.serve_on.ensures.stretched.goes c.in_default.is a core s first)).1

pub returns-clause-served : goal.returns-clause-served
returns-clause-served g c =
    let a = c.args.ways.intake in
    let core = c.args.serving.desk.splitter.core in
    let s = g.O.Outlet.state c.args.ways.outlet in
    let first = going_fresh g.I.Intake.gave g.I.Intake.asked g.I.Intake.ended g.I.Intake.stops g.I.Intake.cause a core s c.args.serving.fed c.requires.begins c.requires.may.fresh (g.I.Intake.gave_none a) (g.I.Intake.asked_none a) in
    rw (c.leave-served.ensures.end, c.leave-served.ensures.got)
    (serves_by _ _ _ _ _ _ _ _ _ _ _ _ _ (c.in-Some.ensures.stretched.ends a core s c.requires.may.intake_plan first) c.serve_on.ensures.came)

pub returns-clause-relieved : goal.returns-clause-relieved
returns-clause-relieved g c = rw (c.leave-served.ensures.end, c.leave-served.ensures.team) (on_went _ c.serve_on.new.serving.desk.splitter.core c.in-Some.end c.in-Some.ensures.relieved_end)

pub returns-clause-due : goal.returns-clause-due
returns-clause-due g c =
    rw (c.leave-served.ensures.end, c.leave-served.ensures.team)
    (if_went (λ (why : Why) (core : Running). IsThrough (Some why) → AreDue c.serve_on.new.serving.relay core.machine.finished) c.serve_on.new.serving.desk.splitter.core c.in-Some.end c.in-Some.ensures.due)

pub returns-clause-prompt : goal.returns-clause-prompt
returns-clause-prompt g c =
    let a = c.args.ways.intake in
    let core = c.args.serving.desk.splitter.core in
    let s = g.O.Outlet.state c.args.ways.outlet in
    let first = going_fresh g.I.Intake.gave g.I.Intake.asked g.I.Intake.ended g.I.Intake.stops g.I.Intake.cause a core s c.args.serving.fed c.requires.begins c.requires.may.fresh (g.I.Intake.gave_none a) (g.I.Intake.asked_none a) in
    c.serve_on.ensures.stretched.prompt a core s first
