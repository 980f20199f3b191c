-- A core that is fed, and then fed on.
use Rattle.std.proofs.Common.{List, ◌++◌, ◌∙◌, ap, append_assoc}
use Rattle.sp_plan.specs.declared.event.Event.{Event}
use Rattle.sp_core.specs.Running.{Running}
use Rattle.sp_split.specs.Stages.{FedOn}
use Rattle.sp_split.proofs.Steps.{went_on}

pub fed_then : (a b c : Running) → FedOn a b → FedOn b c → FedOn a c
fed_then a b c first second = record {
  on = went_on a b c first.on second.on;
  more = first.more ++ second.more;
  events = second.events ∙ ap (λ (l : List Event). l ++ second.more) first.events ∙ append_assoc a.machine.events first.more second.more;
  emitted = second.emitted ∙ first.emitted;
  finished = second.finished ∙ first.finished;
  tickets = second.tickets ∙ first.tickets;
}
