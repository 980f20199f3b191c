-- The state of the machine as it is printed: versions by rising id, tickets by rising number.
use Rattle.std.specs.Prelude.{ℕ, Bool, List, length, Option, map, filter, reverse}
use Rattle.sp_base.specs.Numbers.{NumberList}
use Rattle.sp_plan.specs.declared.plan.Plan.{Plan}
use Rattle.sp_plan.specs.Runs.{State, used}
use Rattle.sp_plan.specs.WindowNumbers.{count}
use Rattle.sp_group.specs.declared.state.State as Printed
use Rattle.sp_group.specs.declared.state.VersionLine.{VersionLine}
use Rattle.sp_group.specs.declared.state.TicketLine.{TicketLine}
use Rattle.sp_group.specs.Rising.{has_number}
use Rattle.sp_group.specs.Machine.{Version, Ticket, Machine, inner, out_for}

-- a version as it is printed: what it is, the ticket that is out for it, and its open groups by rising run
pub record VersionSeen : Type 0 where
  pub id : ℕ
  pub parent : Option ℕ
  pub window : ℕ
  pub label : List ℕ
  pub position : ℕ
  pub skipped : List ℕ
  pub done : Bool
  pub out : Option ℕ
  pub groups : List (ℕ × List ℕ)

-- a ticket as it is printed; `read` counts events alone, and not the closing
pub record TicketSeen : Type 0 where
  pub ticket : ℕ
  pub version : ℕ
  pub first : ℕ
  pub count : ℕ
  pub read : ℕ
  pub snapshot : List ℕ
  pub closes : Bool

-- the whole state as it is printed: events, windows, finished windows and matches by their numbers alone
pub record StateSeen : Type 0 where
  pub events : ℕ
  pub ended : Bool
  pub windows : ℕ
  pub finished : ℕ
  pub emitted : ℕ
  pub consumed : List ℕ
  pub versions : List VersionSeen
  pub tickets : List TicketSeen

-- the open groups, by run
abbrev pub open_groups : Plan → State → List (ℕ × List ℕ)
open_groups q s = map (λ run. (run.0, used q run.1)) (filter (λ run. has_number (used q run.1)) s.open_runs)

abbrev pub version_seen : Plan → Machine → Version → VersionSeen
version_seen q m v = record {
  id = v.id;
  parent = v.parent;
  window = v.window;
  label = v.label;
  position = v.position;
  skipped = v.skipped;
  done = v.done;
  out = out_for m.tickets v.id;
  groups = open_groups q (inner q m.events v);
}

abbrev pub ticket_seen : Ticket → TicketSeen
ticket_seen t = record {
  ticket = t.number;
  version = t.version;
  first = t.first;
  count = t.count;
  read = t.read;
  snapshot = t.snapshot;
  closes = t.closes;
}

-- a state as it is printed
abbrev pub state_seen : Plan → Machine → StateSeen
state_seen q m = record {
  events = length m.events;
  ended = m.ended;
  windows = count q m.events;
  finished = m.finished;
  emitted = length m.emitted;
  consumed = m.consumed;
  versions = reverse (map (version_seen q m) m.versions);
  tickets = reverse (map ticket_seen m.tickets);
}

-- what the lines of a state hold
abbrev pub seen_group : ℕ × NumberList → ℕ × List ℕ
seen_group pair = (pair.0, pair.1.list)

abbrev pub seen_version : VersionLine → VersionSeen
seen_version v = record {
  id = v.id;
  parent = v.parent;
  window = v.window;
  label = v.label;
  position = v.position;
  skipped = v.skipped.list;
  done = v.done;
  out = v.out;
  groups = map seen_group v.groups;
}

abbrev pub seen_ticket : TicketLine → TicketSeen
seen_ticket t = record {
  ticket = t.ticket;
  version = t.version;
  first = t.first;
  count = t.count;
  read = t.read;
  snapshot = t.snapshot.list;
  closes = t.closes;
}

abbrev pub seen : Printed.State → StateSeen
seen s = record {
  events = s.events;
  ended = s.ended;
  windows = s.windows;
  finished = s.finished;
  emitted = s.emitted;
  consumed = s.consumed.list;
  versions = map seen_version s.versions;
  tickets = map seen_ticket s.tickets;
}
