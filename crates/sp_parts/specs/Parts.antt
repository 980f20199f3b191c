-- The parts of an input: longest stretches of windows, each of which shares an event with the one before it.
use Rattle.std.specs.Prelude.{ℕ, ◌+◌, Bool, true, ◌&&◌, List, [], ◌∷◌, length, Option, Some, None, slice_get, nat_le, nat_lt, filter, map, if◌then◌else◌}
use Rattle.std.specs.List.{last_or, list_any}
use Rattle.sp_plan.specs.declared.event.Event.{Event}
use Rattle.sp_plan.specs.declared.plan.Plan.{Plan}
use Rattle.sp_plan.specs.Windows.{Numbered, Window, numbered, windows}
use Rattle.sp_plan.specs.WindowNumbers.{first_of}

-- a part: the number of its first event, how many windows stand before it, whether its last window is closed, and its events
pub record Part : Type 0 where
  pub first : ℕ
  pub windows : ℕ
  pub closed : Bool
  pub events : List Event

-- whether a window begins past the last event of the one before it
abbrev pub stands_apart : Window → Window → Bool
stands_apart before w = nat_lt before.last w.first

-- one window more in front of the windows of parts: it is in the first of these parts unless that one stands apart from it
abbrev pub in_front : Window → List (List Window) → List (List Window)
in_front w [] = (w ∷ []) ∷ []
in_front w ([] ∷ groups) = (w ∷ []) ∷ groups
in_front w ((next ∷ own) ∷ groups) =
    if stands_apart w next then (w ∷ []) ∷ (next ∷ own) ∷ groups else (w ∷ next ∷ own) ∷ groups

-- the windows of each part, in order
abbrev pub grouped : List Window → List (List Window)
grouped [] = []
grouped (w ∷ ws) = in_front w (grouped ws)

-- whether an event is in a window
abbrev pub is_in : Numbered → Window → Bool
is_in x w = nat_le w.first x.0 && nat_le x.0 w.last

-- the events of these windows
abbrev pub events_in : List Event → List Window → List Event
events_in events own = map (λ x. x.1) (filter (λ x. list_any (is_in x) own) (numbered events))

-- whether a window is closed, where there is one
abbrev pub is_closed : Option Window → Bool
is_closed None = true
is_closed (Some w) = w.closed

-- the part that has these windows, where so many stand before them
abbrev pub part_of : List Event → ℕ → List Window → Part
part_of events before own = record {
  first = first_of (slice_get own 0);
  windows = before;
  closed = is_closed (last_or None own);
  events = events_in events own;
}

-- the parts of these windows, where so many stand before all of them
abbrev pub parts_from : List Event → ℕ → List (List Window) → List Part
parts_from events before [] = []
parts_from events before (own ∷ groups) = part_of events before own ∷ parts_from events (before + length own) groups

-- the parts of an input, in order: an event of no window is in none of them
abbrev pub parts_of : Plan → List Event → Bool → List Part
parts_of q events ended = parts_from events 0 (grouped (windows q events ended))
