use Rattle.std.proofs.Common.{refl, rules, sym, subst, ◌∙◌}
use Rattle.sp_split.specs.Stopping.{IsThrough}
use Rattle.sp_split.proofs.Prompt.{if_some_at}
use Rattle.sp_split.proofs.Relieved.{relieved_none, relieved_then}
use Rattle.sp_split.proofs.serving.serve_on.Goals as goal

pub loop-init : goal.loop-init
loop-init g c = record {
  going = λ from first old is. is;
  ready = (c.requires.ready, c.requires.due);
  relieved = relieved_none (λ one. (goal.Predictor-dyn g (one.vtable, one.value)).named one.value) (record { first = c.args.serving.now.desk.splitter.predictor; relay = c.args.serving.now.relay });
  instances = refl;
  batch = refl;
  plan = refl;
  token = refl;
  out_plan = refl;
  out_token = refl;
}

pub round-requires-clause-works : goal.round-requires-clause-works
round-requires-clause-works g c κs within = λ it answer left ready post. record { done = search rules; short = search rules; handed = search rules; goes_on = search rules; stands = search rules; same = (search rules, search rules) }

pub round-requires-clause-going : goal.round-requires-clause-going
round-requires-clause-going g c κs within = let way = c.requires.under_way in (way.0, way.1, way.2, way.3, c.loop.invariant.going way.0 way.1 way.2 way.4)

pub round-requires-clause-plan : goal.round-requires-clause-plan
round-requires-clause-plan g c κs within =
    let way = c.requires.under_way in
    c.loop.invariant.out_plan ∙ c.requires.plan ∙ way.4.going.run.plan ∙ sym (c.loop.invariant.going way.0 way.1 way.2 way.4).going.run.plan

pub returns-in-Err-clause-stretched : goal.returns-in-Err-clause-stretched
returns-in-Err-clause-stretched g c = record {
  goes = λ no. absurd (cc);
  ends = λ from first old same is. record { drove = tt; short = c.in-Err.ensures.short from first old same (c.loop.invariant.going from first old is) };
  prompt = λ from first old is. c.round.ensures.prompt from first old (c.loop.invariant.going from first old is);
}

pub returns-in-Some-over-clause-stretched : goal.returns-in-Some-over-clause-stretched
returns-in-Some-over-clause-stretched g c = record {
  goes = λ no. absurd (cc);
  ends = λ from first old same is. record {
    drove = if_some_at _ c.in-Ok.round.over c.in-Some-over.why c.in-Some-over.is c.in-Ok.ensures.ended from first old (c.loop.invariant.going from first old is);
    short = tt;
  };
  prompt = λ from first old is. c.round.ensures.prompt from first old (c.loop.invariant.going from first old is);
}

pub returns-in-Some-over-clause-relieved_end : goal.returns-in-Some-over-clause-relieved_end
returns-in-Some-over-clause-relieved_end g c =
    let first = c.args.serving.now in
    let old = c.loop.serving in
    let new = c.round.new.driver in
    relieved_then (λ one. (goal.Predictor-dyn g (one.vtable, one.value)).named one.value) (record { first = first.desk.splitter.predictor; relay = first.relay }) (record { first = old.desk.splitter.predictor; relay = old.relay })
    (record { first = new.desk.splitter.predictor; relay = new.relay }) c.loop.invariant.relieved c.in-Ok.ensures.relieved

pub returns-then-wants_instance-clause-stretched : goal.returns-then-wants_instance-clause-stretched
returns-then-wants_instance-clause-stretched g c = record {
  goes = λ _ from first old is. c.in-Ok.ensures.goes c.in_default-over.is from first old (c.loop.invariant.going from first old is);
  ends = tt;
  prompt = λ from first old is. c.round.ensures.prompt from first old (c.loop.invariant.going from first old is);
}

pub returns-then-wants_instance-clause-relieved : goal.returns-then-wants_instance-clause-relieved
returns-then-wants_instance-clause-relieved g c = λ _.
    let first = c.args.serving.now in
    let old = c.loop.serving in
    let new = c.round.new.driver in
    relieved_then (λ one. (goal.Predictor-dyn g (one.vtable, one.value)).named one.value) (record { first = first.desk.splitter.predictor; relay = first.relay }) (record { first = old.desk.splitter.predictor; relay = old.relay })
    (record { first = new.desk.splitter.predictor; relay = new.relay }) c.loop.invariant.relieved c.in-Ok.ensures.relieved

pub loop-preserved : goal.loop-preserved
loop-preserved g c = record {
  going = λ from first old is. c.in-Ok.ensures.goes c.in_default-over.is from first old (c.loop.invariant.going from first old is);
  ready = c.in-Ok.ensures.ready (subst IsThrough (sym c.in_default-over.is) tt);
  relieved = let first = c.args.serving.now in
      let old = c.loop.serving in
      let new = c.round.new.driver in
      relieved_then (λ one. (goal.Predictor-dyn g (one.vtable, one.value)).named one.value) (record { first = first.desk.splitter.predictor; relay = first.relay })
      (record { first = old.desk.splitter.predictor; relay = old.relay }) (record { first = new.desk.splitter.predictor; relay = new.relay }) c.loop.invariant.relieved c.in-Ok.ensures.relieved;
  instances = c.round.ensures.terms.0 ∙ c.loop.invariant.instances;
  batch = c.round.ensures.terms.1 ∙ c.loop.invariant.batch;
  plan = c.round.ensures.same.0 ∙ c.loop.invariant.plan;
  token = c.round.ensures.same.1 ∙ c.loop.invariant.token;
  out_plan = c.round.ensures.same_out.0 ∙ c.loop.invariant.out_plan;
  out_token = c.round.ensures.same_out.1 ∙ c.loop.invariant.out_token;
}
