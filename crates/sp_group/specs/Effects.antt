-- What each step of the machine does, where it is not refused.
use Rattle.std.specs.Prelude.{ℕ, ◌+◌, ◌-◌, Bool, true, false, not, ◌&&◌, ◌||◌, List, [], ◌∷◌, ◌++◌, length, Option, Some, None, is_some, ◌==◌, nat_lt, nat_le, filter, map, if◌then◌else◌}
use Rattle.std.specs.List.{list_all, enumerate_from, range_with_len}
use Rattle.sp_base.specs.Numbers.{is_among, with_numbers}
use Rattle.sp_plan.specs.declared.found.Match.{Match}
use Rattle.sp_plan.specs.declared.plan.Plan.{Plan}
use Rattle.sp_plan.specs.Runs.{State, matched_runs}
use Rattle.sp_plan.specs.Sequential.{match_of}
use Rattle.sp_plan.specs.Windows.{closed}
use Rattle.sp_plan.specs.WindowNumbers.{first, size}
use Rattle.sp_group.specs.declared.step.Step.{Step}
use Rattle.sp_group.specs.declared.step.Step.TheVariants as s
use Rattle.sp_plan.specs.Groups.{used_by_all}
use Rattle.sp_group.specs.Family.{prune, is_parent}
use Rattle.sp_group.specs.Machine.{Version, Ticket, Machine, kin, version_at, ticket_at, root_in, inner, is_group, is_spent, is_suppressed, conflict}

-- a version that has read nothing
abbrev pub fresh : ℕ → Option ℕ → ℕ → List ℕ → Version
fresh id parent window label = record {
  id = id;
  parent = parent;
  window = window;
  label = label;
  position = 0;
  skipped = [];
  done = false;
}

-- a new version in front of the others
abbrev pub spawned : Machine → Version → Machine
spawned m v = record m { versions = v ∷ m.versions; next_id = m.next_id + 1 }

-- a child of the parent, of the window behind the parent's
abbrev pub child_spawned : Machine → ℕ → List ℕ → Option Version → Machine
child_spawned m p label None = m
child_spawned m p label (Some u) = spawned m (fresh m.next_id (Some p) (u.window + 1) label)

-- a root is of the first window that is not finished
abbrev pub any_spawned : Machine → Option ℕ → List ℕ → Machine
any_spawned m None label = spawned m (fresh m.next_id None (m.finished + 1) [])
any_spawned m (Some p) label = child_spawned m p label (version_at m.versions p)

-- how many fed events of its window a version has not read
abbrev pub unread : Plan → Machine → Version → ℕ
unread q m v = size q m.events v.window - v.position

-- how many events go out where n are asked for
abbrev pub lent_count : Plan → Machine → ℕ → Version → ℕ
lent_count q m n v = if nat_le (unread q m v) n then unread q m v else n

-- the number of the next event that a version reads
abbrev pub next_number : Plan → Machine → Version → ℕ
next_number q m v = first q m.events v.window + v.position

-- the ticket of a lease: the next unread events, at most n; the suppressed ones among them are the snapshot; the closing goes with them
-- where the window is closed and they reach its end
abbrev pub lent : Plan → Machine → ℕ → Version → Ticket
lent q m n v = record {
  number = m.next_ticket;
  version = v.id;
  first = next_number q m v;
  count = lent_count q m n v;
  snapshot = filter (is_suppressed q m v.id) (range_with_len (next_number q m v) (lent_count q m n v));
  closes = nat_le v.window (closed q m.events m.ended) && nat_le (unread q m v) n;
  read = 0;
  closing_read = false;
}

abbrev pub leased : Plan → Machine → ℕ → Option Version → Machine
leased q m n None = m
leased q m n (Some v) = record m { tickets = lent q m n v ∷ m.tickets; next_ticket = m.next_ticket + 1 }

-- where this is the ticket that is read on: its next event, or the closing behind the last one
abbrev pub read_if : Bool → Ticket → Ticket
read_if b t = record t {
  read = if b && nat_lt t.read t.count then t.read + 1 else t.read;
  closing_read = if b && nat_le t.count t.read then true else t.closing_read;
}

abbrev pub read_on : ℕ → List Ticket → List Ticket
read_on n tickets = map (λ t. read_if (t.number == n) t) tickets

-- the tickets but the one of that number
abbrev pub without : ℕ → List Ticket → List Ticket
without n tickets = filter (λ t. not (t.number == n)) tickets

-- a version that has read what its ticket read
abbrev pub after_ticket : Version → Ticket → Version
after_ticket v t = record v {
  position = v.position + t.read;
  skipped = with_numbers v.skipped (filter (λ i. nat_lt i (t.first + t.read)) t.snapshot);
  done = v.done || t.closing_read;
}

-- whether a run matched on the way from the runs s to the runs t, and used an event
abbrev pub is_newly_spent : Plan → State → State → ℕ → Bool
is_newly_spent q s t r = is_spent q t r && not (is_spent q s r)

-- whether a label names each run that completed on the way from s to t and used an event
abbrev pub names_completed : Plan → State → State → List ℕ → Bool
names_completed q s t label = list_all (λ run. not (is_newly_spent q s t run.0) || is_among label run.0) t.matched

-- whether a label names no run that was abandoned: each of them has a group in t, or has used it
abbrev pub names_no_abandoned : Plan → State → List ℕ → Bool
names_no_abandoned q t label = list_all (λ r. is_group q t r || is_spent q t r) label

-- a child of a version whose runs went from s to t: it stays where its label foresaw what was decided, and its label keeps what is open
abbrev pub child_after : Plan → State → State → Version → Option Version
child_after q s t v =
    if names_completed q s t v.label && names_no_abandoned q t v.label then Some (record v { label = filter (is_group q t) v.label })
    else None

-- what a reading does to each version: the one that read is renewed, its children stay or go, and the others are as they were
abbrev pub after_reading : Plan → ℕ → Version → State → State → Version → Option Version
after_reading q id new s t v =
    if v.id == id then Some new
    else if is_parent id v.parent then child_after q s t v
    else Some v

-- all but one version, and with it what is below it
abbrev pub but : ℕ → Version → Option Version
but id v = if v.id == id then None else Some v

-- a ticket ends; what was read for a version that is live is the version's
abbrev pub home : Plan → Machine → ℕ → Ticket → Option Version → Machine
home q m n t None = record m { tickets = without n m.tickets }
home q m n t (Some v) =
    let new = after_ticket v t in
    record m {
      tickets = without n m.tickets;
      versions = prune kin (after_reading q v.id new (inner q m.events v) (inner q m.events new)) m.versions;
    }

abbrev pub returned : Plan → Machine → ℕ → Option Ticket → Machine
returned q m n None = m
returned q m n (Some t) = home q m n t (version_at m.versions t.version)

abbrev pub event_read : Machine → ℕ → Machine
event_read m n = record m { tickets = read_on n m.tickets }

-- a version begins anew, with a new id and its label, and all below it is gone
abbrev pub rolled : Machine → Option Version → Machine
rolled m None = m
rolled m (Some v) = record m {
  versions = fresh m.next_id v.parent v.window v.label ∷ prune kin (but v.id) m.versions;
  next_id = m.next_id + 1;
}

-- the root goes, and its children lose their parent
abbrev pub promoted : ℕ → Version → Option Version
promoted id v =
    if v.id == id then None
    else if is_parent id v.parent then Some (record v { parent = None })
    else Some v

-- the matches of a version's window, numbered on
abbrev pub new_matches : Plan → Machine → Version → List Match
new_matches q m v = map (match_of q v.window) (enumerate_from (length m.emitted + 1) (matched_runs (inner q m.events v)))

-- the root's matches are emitted, what they used is consumed, and its remaining child is the root
abbrev pub popped : Plan → Machine → Version → Machine
popped q m v = record m {
  finished = m.finished + 1;
  emitted = m.emitted ++ new_matches q m v;
  consumed = with_numbers m.consumed (used_by_all q (inner q m.events v));
  versions = prune kin (promoted v.id) m.versions;
}

-- a root that is in conflict begins anew
abbrev pub settled : Plan → Machine → Option Version → Machine
settled q m None = m
settled q m (Some v) = if is_some (conflict q m v) then rolled m (Some v) else m

abbrev pub finished_one : Plan → Machine → Option Version → Machine
finished_one q m None = m
finished_one q m (Some v) = settled q (popped q m v) (root_in (popped q m v).versions)

-- what a step does
abbrev pub effect : Plan → Machine → Step → Machine
effect q m (s.Feed e) = record m { events = m.events ++ e ∷ [] }
effect q m s.End = record m { ended = true }
effect q m (s.Spawn parent label) = any_spawned m parent label
effect q m (s.Lease id n) = leased q m n (version_at m.versions id)
effect q m (s.Event n) = event_read m n
effect q m (s.Return n) = returned q m n (ticket_at m.tickets n)
effect q m (s.Roll id) = rolled m (version_at m.versions id)
effect q m s.Finish = finished_one q m (root_in m.versions)
