use Rattle.std.proofs.Common.{refl, rules, sym, subst, ◌∙◌}
use Rattle.sp_split.specs.Stopping.{IsThrough}
use Rattle.sp_split.proofs.Prompt.{going_first, going_stops, if_some_at}
use Rattle.sp_split.proofs.Relieved.{relieved_none, relieved_then}
use Rattle.sp_split.proofs.Turns.{alone_first, err_any}
use Rattle.sp_split.proofs.alone.run_alone.Goals as goal

pub loop-init : goal.loop-init
loop-init g c =
    let a = c.args.intake.now in
    let core = c.args.lone.now.core in
    record {
      going = going_first g.I.Intake.gave g.I.Intake.asked g.I.Intake.ended g.I.Intake.stops g.I.Intake.cause a core (g.O.Outlet.state c.args.outlet.now) c.requires.fresh (g.I.Intake.gave_none a) (g.I.Intake.asked_none a);
      ready = (alone_first core c.requires.fresh, c.requires.due);
      relieved = relieved_none (λ one. (goal.Predictor-dyn g (one.vtable, one.value)).named one.value) c.args.lone.now.team;
      plan = refl;
      token = refl;
      out_plan = refl;
      out_token = refl;
    }

pub round-requires-clause-ready : goal.round-requires-clause-ready
round-requires-clause-ready g c κs within = c.loop.invariant.ready

pub round-requires-clause-works : goal.round-requires-clause-works
round-requires-clause-works g c κs within = λ it answer left ready post. record { done = search rules; short = search rules; handed = search rules; goes_on = search rules; stands = search rules; same = (refl, search rules) }

pub round-requires-clause-going : goal.round-requires-clause-going
round-requires-clause-going g c κs within = (c.args.intake.now, c.args.lone.now.core, g.O.Outlet.state c.args.outlet.now, c.requires.intake_plan, c.loop.invariant.going)

pub round-requires-clause-plan : goal.round-requires-clause-plan
round-requires-clause-plan g c κs within = c.loop.invariant.out_plan ∙ c.requires.outlet_plan ∙ sym c.loop.invariant.going.going.run.plan

pub returns-in_err-round-clause-short : goal.returns-in_err-round-clause-short
returns-in_err-round-clause-short g c = err_any _ c.from_residual.result (c.in_err-round.ensures.short c.args.intake.now c.args.lone.now.core (g.O.Outlet.state c.args.outlet.now) c.requires.intake_plan c.loop.invariant.going)

pub returns-in-Some-clause-ended : goal.returns-in-Some-clause-ended
returns-in-Some-clause-ended g c = if_some_at _ c.in_ok-round.round.over c.in-Some.why c.in-Some.is c.in_ok-round.ensures.ended c.args.intake.now c.args.lone.now.core (g.O.Outlet.state c.args.outlet.now) c.loop.invariant.going

pub returns-in-Some-clause-relieved : goal.returns-in-Some-clause-relieved
returns-in-Some-clause-relieved g c =
    relieved_then (λ one. (goal.Predictor-dyn g (one.vtable, one.value)).named one.value) c.args.lone.now.team c.loop.lone.team c.round.new.driver.team c.loop.invariant.relieved c.in_ok-round.ensures.relieved

pub returns-in-Some-clause-due : goal.returns-in-Some-clause-due
returns-in-Some-clause-due g c = λ is. (c.in_ok-round.ensures.ready (subst IsThrough (sym c.in-Some.is) is)).1

pub loop-preserved : goal.loop-preserved
loop-preserved g c = record {
  going = c.in_ok-round.ensures.goes c.in_default.is c.args.intake.now c.args.lone.now.core (g.O.Outlet.state c.args.outlet.now) c.loop.invariant.going;
  ready = c.in_ok-round.ensures.ready (subst IsThrough (sym c.in_default.is) tt);
  relieved = relieved_then (λ one. (goal.Predictor-dyn g (one.vtable, one.value)).named one.value) c.args.lone.now.team c.loop.lone.team c.round.new.driver.team c.loop.invariant.relieved c.in_ok-round.ensures.relieved;
  plan = c.round.ensures.same.0 ∙ c.loop.invariant.plan;
  token = c.round.ensures.same.1 ∙ c.loop.invariant.token;
  out_plan = c.round.ensures.same_out.0 ∙ c.loop.invariant.out_plan;
  out_token = c.round.ensures.same_out.1 ∙ c.loop.invariant.out_token;
}

pub returns-clause-ended : goal.returns-clause-ended
returns-clause-ended g c =
    going_stops g.I.Intake.gave g.I.Intake.asked g.I.Intake.ended g.I.Intake.stops g.I.Intake.cause c.args.intake.now c.loop.intake c.args.lone.now.core c.loop.lone.core (g.O.Outlet.state c.args.outlet.now) (g.O.Outlet.state c.loop.outlet) c.loop.fed
    c.loop.invariant.going

pub returns-clause-relieved : goal.returns-clause-relieved
returns-clause-relieved g c = c.loop.invariant.relieved

pub returns-clause-due : goal.returns-clause-due
returns-clause-due g c = λ no. absurd no
