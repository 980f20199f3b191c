-- The state of the speculative machine, and what its versions come to.
use Rattle.std.specs.Prelude.{ℕ, ◌+◌, Bool, false, not, ◌&&◌, ◌||◌, List, [], ◌∷◌, Option, Some, None, is_some, ◌==◌, nat_lt, nat_le, if◌then◌else◌}
use Rattle.std.specs.List.{list_any}
use Rattle.sp_base.specs.Numbers.{is_among}
use Rattle.sp_plan.specs.declared.event.Event.{Event}
use Rattle.sp_plan.specs.declared.found.Match.{Match}
use Rattle.sp_plan.specs.declared.plan.Plan.{Plan}
use Rattle.sp_plan.specs.Runs.{State, after_closing}
use Rattle.sp_plan.specs.Reading.{reading}
use Rattle.sp_plan.specs.WindowNumbers.{first, size}
use Rattle.sp_plan.specs.Groups.{group, used_by, used_by_all}
use Rattle.sp_group.specs.Rising.{has_number, least}
use Rattle.sp_group.specs.Family.{Kin, entry_at}

-- One processing of a window, under a guess: its label names the groups of its parent that are taken to complete; the parent's other
-- groups are taken to be abandoned. It has read the first `position` events of its window, those it skipped among them; it is done once
-- it has read the window's closing.
pub record Version : Type 0 where
  pub id : ℕ
  pub parent : Option ℕ
  pub window : ℕ
  pub label : List ℕ
  pub position : ℕ
  pub skipped : List ℕ
  pub done : Bool

-- Events that are out for reading: `count` of them from number `first` on, lent to a version, of which those of the snapshot are to be
-- skipped; the window's closing comes behind them where `closes`. How far the reading has come stands beside it.
pub record Ticket : Type 0 where
  pub number : ℕ
  pub version : ℕ
  pub first : ℕ
  pub count : ℕ
  pub snapshot : List ℕ
  pub closes : Bool
  pub read : ℕ
  pub closing_read : Bool

-- The whole state. The newest version and the newest ticket stand first, so that a parent stands behind its children.
pub record Machine : Type 0 where
  pub events : List Event
  pub ended : Bool
  pub finished : ℕ
  pub emitted : List Match
  pub consumed : List ℕ
  pub versions : List Version
  pub tickets : List Ticket
  pub next_id : ℕ
  pub next_ticket : ℕ

-- nothing has come yet
abbrev pub opening : Machine
opening = record {
  events = [];
  ended = false;
  finished = 0;
  emitted = [];
  consumed = [];
  versions = [];
  tickets = [];
  next_id = 1;
  next_ticket = 1;
}

-- versions by their ids and parents
abbrev pub kin : Kin Version
kin = record { id = λ v. v.id; parent = λ v. v.parent }

-- the live version of an id
abbrev pub version_at : List Version → ℕ → Option Version
version_at versions id = entry_at kin versions id

-- the ticket of a number, where it is out
abbrev pub ticket_at : List Ticket → ℕ → Option Ticket
ticket_at [] n = None
ticket_at (t ∷ ts) n = if t.number == n then Some t else ticket_at ts n

-- the number of a ticket that is out for the version of an id
abbrev pub out_for : List Ticket → ℕ → Option ℕ
out_for [] id = None
out_for (t ∷ ts) id = if t.version == id then Some t.number else out_for ts id

-- whether a ticket is out for the version of an id
abbrev pub is_out : List Ticket → ℕ → Bool
is_out ts id = list_any (λ t. t.version == id) ts

-- the version that has no parent
abbrev pub root_in : List Version → Option Version
root_in [] = None
root_in (v ∷ vs) = if is_some v.parent then root_in vs else Some v

-- the runs of a version: those over the events that it read and did not skip, after the closing where it is done
abbrev pub inner : Plan → List Event → Version → State
inner q events v =
    if v.done then after_closing (reading q events v.skipped (first q events v.window) v.position)
    else reading q events v.skipped (first q events v.window) v.position

-- whether a run is open and has a group: it binds an event to a consumed name
abbrev pub is_group : Plan → State → ℕ → Bool
is_group q s r = has_number (group q s r)

-- whether a run has matched and used an event
abbrev pub is_spent : Plan → State → ℕ → Bool
is_spent q s r = has_number (used_by q s r)

-- whether an event is in one of the groups that a label names
abbrev pub is_named : Plan → State → List ℕ → ℕ → Bool
is_named q s label i = list_any (λ r. is_among (group q s r) i) label

-- whether a parent keeps an event from its child: its matches used it, or it is in a group that is taken to complete
abbrev pub is_withheld : Plan → State → List ℕ → ℕ → Bool
is_withheld q s label i = is_among (used_by_all q s) i || is_named q s label i

-- the same, where the parent is there
abbrev pub withheld_by : Plan → (Version → State) → Option Version → List ℕ → ℕ → Bool
withheld_by q f None label i = false
withheld_by q f (Some u) label i = is_withheld q (f u) label i

-- what is suppressed below a parent: what is so for the parent, and what the parent keeps from this child; for the root what is consumed
abbrev pub suppressed_below : Plan → (Version → State) → List ℕ → (ℕ → ℕ → Bool) → (ℕ → Option Version) → Option ℕ → List ℕ → ℕ → Bool
suppressed_below q f consumed above at None label i = is_among consumed i
suppressed_below q f consumed above at (Some p) label i = above p i || withheld_by q f (at p) label i

-- Whether an event is suppressed for the version of an id: it is consumed; or a match of an ancestor used it; or it is in a group that
-- the label of the version, or of an ancestor, names. The runs of each version are given.
abbrev pub suppressed_by : Plan → (Version → State) → List ℕ → List Version → ℕ → ℕ → Bool
suppressed_by q f consumed [] id i = false
suppressed_by q f consumed (v ∷ vs) id i =
    if v.id == id then suppressed_below q f consumed (suppressed_by q f consumed vs) (version_at vs) v.parent v.label i
    else suppressed_by q f consumed vs id i

-- the same in a state of the machine
abbrev pub is_suppressed : Plan → Machine → ℕ → ℕ → Bool
is_suppressed q s id i = suppressed_by q (inner q s.events) s.consumed s.versions id i

-- whether a version has read an event, and did not skip it
abbrev pub is_read : Plan → List Event → Version → ℕ → Bool
is_read q events v i =
    nat_le (first q events v.window) i && nat_lt i (first q events v.window + v.position) && not (is_among v.skipped i)

-- whether a ticket lends an event that its snapshot lacks
abbrev pub is_lent : Ticket → ℕ → Bool
is_lent t i = nat_le t.first i && nat_lt i (t.first + t.count) && not (is_among t.snapshot i)

-- whether an event is lent to the version of an id, and not in the snapshot
abbrev pub is_bare : List Ticket → ℕ → ℕ → Bool
is_bare ts id i = list_any (λ t. t.version == id && is_lent t i) ts

-- whether an event is suppressed for a version that reads it all the same
abbrev pub is_hit : Plan → Machine → Version → ℕ → Bool
is_hit q s v i = is_suppressed q s v.id i && (is_read q s.events v i || is_bare s.tickets v.id i)

-- the conflict of a version: the least event that is suppressed for it and that it reads all the same
abbrev pub conflict : Plan → Machine → Version → Option ℕ
conflict q s v = least (is_hit q s v) (first q s.events v.window) (size q s.events v.window)
