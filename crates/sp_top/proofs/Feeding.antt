-- What matches of a first query gave to a second, as what is given to it.
use Rattle.std.proofs.Common.{◌≡◌, ◌≤◌, true, List, length, sym, subst, ◌∙◌}
use Rattle.std.specs.List.{All}
use Rattle.std.proofs.lemmas.List.Elements.{All-weaker}
use Rattle.sp_base.specs.Limits.{event_limit}
use Rattle.sp_plan.specs.Bounds.{IsSmall}
use Rattle.sp_plan.specs.Events.{fits, AllFit, NeverGoesBack}
use Rattle.sp_plan.specs.Laws.{FittingEventsAreSmall}
use Rattle.sp_plan.specs.declared.event.Event.{Event}
use Rattle.sp_plan.specs.declared.plan.Plan.{Plan}
use Rattle.sp_graph.specs.Answers.{events_in, IsDerived}
use Rattle.sp_graph.specs.Derived.{Deriving}
use Rattle.sp_graph.specs.declared.outcome.Derived.{Derived}
use Rattle.sp_graph.specs.declared.outcome.Derived.TheVariants.{All as Whole, UpTo}
use Rattle.sp_ports.specs.Giving.{AreGood}
use Rattle.sp_ports.specs.declared.stop.Stop.{Stop}
use Rattle.sp_commands.specs.Graph.{IsSecondGiven}
use Rattle.sp_commands.specs.declared.given.Given.{Given}

-- the numbers of good events keep their limit
pub all_small : FittingEventsAreSmall → (q : Plan) (events : List Event) → AreGood q events → All IsSmall events
all_small law q events good = All-weaker (λ e. fits q e ≡ true) IsSmall (λ e. law q e) events good.good.0

-- the events of an answer are those that were derived
events_same : (d : Deriving) (answer : Derived) → IsDerived d answer → events_in answer ≡ d.events
events_same d (Whole events) is = is.1
events_same d (UpTo events limit) is = is.1

-- what is given of good events is good
pub fed_good : (p : Plan) (stop : Stop) (answer : Derived) (given : Given) (d : Deriving) → IsDerived d answer → ((d : Deriving) → IsDerived d answer → IsSecondGiven stop d given)
    → AllFit p (events_in answer) → length (events_in answer) ≤ event_limit → NeverGoesBack (events_in answer) → AreGood p given.events.items
fed_good p stop answer given d is gives fit few order =
    subst (AreGood p) (events_same d answer is ∙ sym (gives d is).events) (record { good = (fit, order); few = few })
