-- Which numbers a table of texts may hold, and which events stand for those that a match binds.
use Rattle.std.specs.Prelude.{◌≡◌, ℕ, true, List, Option, Some, None, slice_get}
use Rattle.std.specs.List.{filter_map, last_or, list_any}
use Rattle.std.specs.Option.{option_map}
use Rattle.std.specs.Str.{bytes_eq}
use Rattle.sp_plan.specs.declared.event.Event.{Event}
use Rattle.sp_plan.specs.Texts.{symbol_of}
use Rattle.sp_plan.specs.Values.{BoundEvents}
use Rattle.sp_graph.specs.declared.table.Table.{Table}
use Rattle.sp_graph.specs.Derived.{numbered_event, text_at}

-- The text is among these, and has this number.
pub record IsKnown (texts : List (List ℕ)) (text : List ℕ) (number : ℕ) : Type 0 where
  pub known : list_any (bytes_eq text) texts ≡ true
  pub number_is : number ≡ symbol_of texts text

-- Each number in the table is that of its text, which is known.
abbrev pub IsTable : List (List ℕ) → Table → Type 0
IsTable texts table =
    (symbol number : ℕ) → slice_get table.numbers.items symbol ≡ Some (Some number) → IsKnown table.known (text_at texts symbol) number

-- the last of the events that have these numbers
abbrev pub last_event : List Event → List ℕ → Option Event
last_event events numbers = last_or None (filter_map (numbered_event events) numbers)

-- that event with the name to which it is bound
abbrev pub last_bound_to : List Event → ℕ × List ℕ → Option (ℕ × Event)
last_bound_to events pair = option_map (λ e. (pair.0, e)) (last_event events pair.1)

-- the last event of each name that a match binds
abbrev pub last_of_each : List Event → List (ℕ × List ℕ) → BoundEvents
last_of_each events bound = filter_map (last_bound_to events) bound
