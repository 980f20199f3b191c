-- What is answered: the value of a column, the event of a match, and all events.
use Rattle.std.specs.Prelude.{◌≡◌, ℕ, true, false, List, Option, Some, None}
use Rattle.std.specs.List.{list_any}
use Rattle.sp_plan.specs.declared.event.Event.{Event}
use Rattle.sp_plan.specs.declared.event.Value.{Value}
use Rattle.sp_graph.specs.declared.outcome.Derived.{Derived}
use Rattle.sp_graph.specs.declared.outcome.Derived.TheVariants.{All as Whole, UpTo}
use Rattle.sp_graph.specs.Derived.{Deriving, is_past, placed, event_of}

-- The value that is put in for one that was given, and the texts after it; none is where that one is past its limit.
abbrev pub IsPlaced : List (List ℕ) → List (List ℕ) → Value → Option Value → List (List ℕ) → Type 0
IsPlaced texts known own None after = is_past own ≡ true
IsPlaced texts known own (Some made) after = (is_past own ≡ false) × ((made, after) ≡ placed texts known own)

-- The event of a match that gives these values, and the texts after it; none is where one of them is past its limit.
abbrev pub IsMade : List (List ℕ) → List (List ℕ) → List Value → Option Event → List (List ℕ) → Type 0
IsMade texts known values None after = list_any is_past values ≡ true
IsMade texts known values (Some event) after = (list_any is_past values ≡ false) × ((event, after) ≡ event_of texts known values)

-- the events of an answer
abbrev pub events_in : Derived → List Event
events_in (Whole events) = events.items
events_in (UpTo events limit) = events.items

-- All events are answered where no limit was passed, and otherwise those before it and the limit.
abbrev pub IsDerived : Deriving → Derived → Type 0
IsDerived d (Whole events) = (d.limit ≡ None) × (events.items ≡ d.events)
IsDerived d (UpTo events limit) = (d.limit ≡ Some limit) × (events.items ≡ d.events)
