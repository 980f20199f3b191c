-- What the driving of an input's parts comes to.
use Rattle.std.specs.Prelude.{◌≡◌, Bool, List, if◌then◌else◌}
use Rattle.std.specs.List.{list_all}
use Rattle.sp_plan.specs.declared.event.Event.{Event}
use Rattle.sp_plan.specs.declared.plan.Plan.{Plan}
use Rattle.sp_ports.specs.Giving.{AreGood}
use Rattle.sp_ports.specs.declared.stop.Stop.{Stop}
use Rattle.sp_ports.specs.Stopping.{is_end}
use Rattle.sp_split.specs.declared.ended.Why.{Why}
use Rattle.sp_split.specs.declared.ended.Why.TheVariants as why
use Rattle.sp_parts.specs.Parts.{Part, parts_of}

-- These are the parts of some events that an engine takes, whose reading ended for this reason.
pub record ArePartsOf (q : Plan) (stop : Stop) (parts : List Part) : Type 0 where
  pub events : List Event
  pub good : AreGood q events
  pub are : parts ≡ parts_of q events (is_end stop)

-- whether the last window of each part is closed
abbrev pub all_closed : List Part → Bool
all_closed parts = list_all (λ part. part.closed) parts

-- why it ends where the matches of all parts were taken: with the parts where each is closed, and else for the reason for which reading ended
abbrev pub end_of : Stop → List Part → Why
end_of stop parts = if all_closed parts then why.Whole else why.Stopped stop
