use Rattle.std.proofs.Common.{◌∙◌, subst, arith}
use Rattle.sp_split.specs.declared.feeding.Fed.{Fed}
use Rattle.sp_split.specs.declared.feeding.Fed.TheVariants as f
use Rattle.sp_split.specs.Stages.{AllFinished, IsFed}
use Rattle.sp_split.proofs.FedThen.{fed_then}
use Rattle.sp_split.proofs.Going.{goes_fed}
use Rattle.sp_split.proofs.Prompt.{asked_step}
use Rattle.sp_split.proofs.Turns.{err_any}
use Rattle.sp_split.proofs.feeding.feed_batch.Goals as goal

pub returns-in_err-ended-clause-on : goal.returns-in_err-ended-clause-on
returns-in_err-ended-clause-on g c = fed_then (g.D.Driver.core c.args.driver.now) (g.D.Driver.core c.loop.driver) (g.D.Driver.core c.feed_next.new.driver) c.loop.invariant.on c.feed_next.ensures.on

pub returns-in_err-ended-clause-lost : goal.returns-in_err-ended-clause-lost
returns-in_err-ended-clause-lost g c =
    let lost = c.in_err-ended.ensures.lost in
    let first = g.D.Driver.core c.args.driver.now in
    let mid = g.D.Driver.core c.loop.driver in
    err_any _ c.from_residual.result (
      lost.0,
      (λ from was. lost.1 from (c.loop.invariant.given from was)),
      asked_step g.I.Intake.asked (AllFinished first) c.loop.may_ask first.machine.events mid.machine.events _ c.args.intake.now c.loop.intake c.feed_next.new.intake c.loop.invariant.asked c.loop.invariant.first lost.2,
    )

pub returns-in_err-ended-clause-few : goal.returns-in_err-ended-clause-few
returns-in_err-ended-clause-few g c =
    let one = c.feed_next.ensures.few in
    let before = c.loop.invariant.few in
    let below = c.loop-test.true in
    let most = c.batch-end.ensures in
    omega (arith, one, before, below, most)

pub returns-in_default : goal.returns-in_default
returns-in_default g c =
    let first = g.D.Driver.core c.args.driver.now in
    let mid = g.D.Driver.core c.loop.driver in
    let last = g.D.Driver.core c.feed_next.new.driver in
    record {
      on = fed_then first mid last c.loop.invariant.on c.feed_next.ensures.on;
      given = λ from was. c.in_ok-ended.ensures.given from (c.loop.invariant.given from was);
      asked = asked_step g.I.Intake.asked (AllFinished first) c.loop.may_ask first.machine.events mid.machine.events last.machine.events c.args.intake.now c.loop.intake c.feed_next.new.intake
          c.loop.invariant.asked c.loop.invariant.first c.in_ok-ended.ensures.asked;
      lost = tt;
      is = goes_fed g.I.Intake.ended g.I.Intake.stops g.I.Intake.cause c.args.intake.now c.loop.intake c.feed_next.new.intake c.in_ok-ended.ended last.machine.ended c.loop.invariant.goes_on c.in_ok-ended.ensures.is;
      few = let one = c.feed_next.ensures.few in let before = c.loop.invariant.few in let below = c.loop-test.true in let most = c.batch-end.ensures in omega (arith, one, before, below, most);
      ready = c.feed_next.ensures.ready;
      terms = (c.feed_next.ensures.terms.0 ∙ c.loop.invariant.instances, c.feed_next.ensures.terms.1 ∙ c.loop.invariant.batch, c.feed_next.ensures.terms.2 ∙ c.loop.invariant.team);
      same = (c.feed_next.ensures.same.0 ∙ c.loop.invariant.plan, c.feed_next.ensures.same.1 ∙ c.loop.invariant.token);
    }

pub loop-preserved : goal.loop-preserved
loop-preserved g c =
    let first = g.D.Driver.core c.args.driver.now in
    let mid = g.D.Driver.core c.loop.driver in
    let last = g.D.Driver.core c.feed_next.new.driver in
    let is = goes_fed g.I.Intake.ended g.I.Intake.stops g.I.Intake.cause c.args.intake.now c.loop.intake c.feed_next.new.intake f.More last.machine.ended c.loop.invariant.goes_on
    (subst (λ (fed : Fed). IsFed g.I.Intake.ended g.I.Intake.stops g.I.Intake.cause c.loop.intake c.feed_next.new.intake fed last.machine.ended) c.in-More.is c.in_ok-ended.ensures.is) in
    record {
      on = fed_then first mid last c.loop.invariant.on c.feed_next.ensures.on;
      given = λ from was. c.in_ok-ended.ensures.given from (c.loop.invariant.given from was);
      asked = asked_step g.I.Intake.asked (AllFinished first) c.loop.may_ask first.machine.events mid.machine.events last.machine.events c.args.intake.now c.loop.intake c.feed_next.new.intake
          c.loop.invariant.asked c.loop.invariant.first c.in_ok-ended.ensures.asked;
      first = λ no. absurd (cc no);
      unended = is.0;
      goes_on = is.1;
      few = let one = c.feed_next.ensures.few in let before = c.loop.invariant.few in omega (arith, one, before);
      ready = c.feed_next.ensures.ready;
      instances = c.feed_next.ensures.terms.0 ∙ c.loop.invariant.instances;
      batch = c.feed_next.ensures.terms.1 ∙ c.loop.invariant.batch;
      team = c.feed_next.ensures.terms.2 ∙ c.loop.invariant.team;
      plan = c.feed_next.ensures.same.0 ∙ c.loop.invariant.plan;
      token = c.feed_next.ensures.same.1 ∙ c.loop.invariant.token;
    }

pub returns-clause-asked : goal.returns-clause-asked
returns-clause-asked g c = c.loop.invariant.asked

pub returns-clause-is : goal.returns-clause-is
returns-clause-is g c = (c.loop.invariant.unended, c.loop.invariant.goes_on)

pub returns-clause-few : goal.returns-clause-few
returns-clause-few g c =
    let before = c.loop.invariant.few in
    let most = c.batch-end.ensures in
    omega (arith, before, most)
