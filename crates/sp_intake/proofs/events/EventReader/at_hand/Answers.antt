use Rattle.std.proofs.Common.{[], subst}
use Rattle.std.specs.Prelude.{Option}
use Rattle.sp_plan.specs.declared.event.Event.{Event}
use Rattle.sp_intake.specs.Asked.{standing}
use Rattle.sp_intake.specs.Reader.{event_in}
use Rattle.sp_intake.specs.Standing.{GivesBy}
use Rattle.sp_intake.proofs.events.EventReader.at_hand.Goals as goal

pub returns-in-Ok-Event-clause-gives : goal.returns-in-Ok-Event-clause-gives
returns-in-Ok-Event-clause-gives c source =
    let told : GivesBy (standing source c.args.self.now) [] (event_in c.poll.new.event) (standing source c.poll.new.self) = rw c.in-Ok-Event.field-0-is at c.in-Ok-Event.ensures.gives source in
    subst (λ (put : Option Event). GivesBy (standing source c.args.self.now) [] (event_in put) (standing source c.poll.new.self)) c.unwrap.ensures told

pub returns-then-is_end-clause-gives : goal.returns-then-is_end-clause-gives
returns-then-is_end-clause-gives c source = rw c.in-Ok-Stop.field-0-is at c.in-Ok-Stop.ensures.gives source

pub returns-else-is_end-clause-gives : goal.returns-else-is_end-clause-gives
returns-else-is_end-clause-gives c source = rw c.in-Ok-Stop.field-0-is at c.in-Ok-Stop.ensures.gives source

pub returns-in-Ok-Ask-clause-gives : goal.returns-in-Ok-Ask-clause-gives
returns-in-Ok-Ask-clause-gives c source = rw c.in-Ok-Ask.field-0-is at c.in-Ok-Ask.ensures.gives source

pub returns-in-Err-clause-gives : goal.returns-in-Err-clause-gives
returns-in-Err-clause-gives c source = c.in-Err.ensures.gives source
