use Rattle.std.proofs.Common.{◌≡◌, true}
use Rattle.sp_ports.specs.Giving.{given_by}
use Rattle.sp_split.proofs.Prompt.{asked_for, asked_none_for, lost_one, on_err}
use Rattle.sp_split.proofs.feeding.feed_next.Goals as goal

pub returns-then-may_ask-clause-lost : goal.returns-then-may_ask-clause-lost
returns-then-may_ask-clause-lost g c =
    let events = (g.D.Driver.core c.args.driver.now).machine.events in
    on_err _ _ c.take_in.result (λ same.
    lost_one g.I.Intake.gave g.I.Intake.asked (c.args.may_ask ≡ true) events (g.D.Driver.core c.take_in.new.driver).machine.events (given_by c.next.result) c.args.intake.now c.next.new.self same
    c.next.ensures.given (asked_for g.I.Intake.asked (c.args.may_ask ≡ true) events (given_by c.next.result) c.args.intake.now c.next.new.self c.if-may_ask.true c.next.ensures.asked)) c.take_in.ensures.err

pub returns-in-Some-clause-lost : goal.returns-in-Some-clause-lost
returns-in-Some-clause-lost g c =
    let events = (g.D.Driver.core c.args.driver.now).machine.events in
    on_err _ _ c.take_in-in-Some.result (λ same.
    lost_one g.I.Intake.gave g.I.Intake.asked (c.args.may_ask ≡ true) events (g.D.Driver.core c.take_in-in-Some.new.driver).machine.events (given_by c.in-Some.answer) c.args.intake.now c.at_hand.new.self same
    c.in-Some.ensures.given (asked_none_for g.I.Intake.asked (c.args.may_ask ≡ true) events (given_by c.in-Some.answer) c.args.intake.now c.at_hand.new.self c.in-Some.ensures.asked)) c.take_in-in-Some.ensures.err
