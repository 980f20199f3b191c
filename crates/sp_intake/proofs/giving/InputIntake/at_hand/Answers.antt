use Rattle.std.proofs.Common.{[], ap}
use Rattle.sp_ports.specs.Giving.{given_at}
use Rattle.sp_intake.specs.declared.reader.State.{State}
use Rattle.sp_intake.specs.Asked.{standing}
use Rattle.sp_intake.specs.Standing.{stop_in, is_whole}
use Rattle.sp_intake.proofs.Asking.{asked_still, gives_on}
use Rattle.sp_intake.proofs.giving.InputIntake.at_hand.Goals as goal

pub returns-clause-plan : goal.returns-clause-plan
returns-clause-plan g c = (c.at_hand.ensures.gives (g.S.Source.state c.args.self.now.source.now)).reads.plan

pub returns-clause-given : goal.returns-clause-given
returns-clause-given g c from events before =
    let source = g.S.Source.state c.args.self.now.source.now in
    let old = standing source c.args.self.now.events in
    let new = standing source c.at_hand.new.self in
    gives_on (standing (g.S.Source.state from.source.now) from.events) old new events (given_at c.at_hand.result) c.at_hand.new.self.rows.few before ([], c.at_hand.ensures.gives source)

pub returns-clause-event : goal.returns-clause-event
returns-clause-event g c given is =
    let at = c.at_hand.ensures.event given is in
    (ap (λ (state : State). is_whole (stop_in state)) at.0, at.1)

pub returns-clause-asked : goal.returns-clause-asked
returns-clause-asked g c from before events asked =
    let source = g.S.Source.state c.args.self.now.source.now in
    let old = standing source c.args.self.now.events in
    let new = standing source c.at_hand.new.self in
    asked_still (standing (g.S.Source.state from.source.now) from.events) old new before events c.at_hand.new.self.rows.few (given_at c.at_hand.result) (c.at_hand.ensures.gives source) asked
