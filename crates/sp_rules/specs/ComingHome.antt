-- Where the reading of what a ticket lends leads: to the runs of its version, once that has read so far.
use Rattle.std.specs.Prelude.{◌≡◌, ℕ, suc, ◌+◌, ◌-◌, Bool, List, Some, take, drop, slice_get, if◌then◌else◌}
use Rattle.sp_base.specs.Numbers.{is_among}
use Rattle.sp_plan.specs.declared.event.Event.{Event}
use Rattle.sp_plan.specs.declared.plan.Plan.{Plan}
use Rattle.sp_plan.specs.Compiled.{IsCompiled}
use Rattle.sp_plan.specs.Runs.{State, after_closing}
use Rattle.sp_plan.specs.Reading.{after_event}
use Rattle.sp_group.specs.Machine.{Version, Ticket, Machine, version_at, ticket_at, inner}
use Rattle.sp_group.specs.Effects.{after_ticket}
use Rattle.sp_rules.specs.Kept.{Kept}
use Rattle.sp_rules.specs.Returning.{read_to, LendsSoFar}

-- A ticket is out for a live version, and so many of its events were read, and perhaps the closing.
pub record IsComingHome (q : Plan) (m : Machine) (n : ℕ) (t : Ticket) (v : Version) (k : ℕ) (closed : Bool) : Type 0 where
  pub kept : Kept q m
  pub out : ticket_at m.tickets n ≡ Some t
  pub live : version_at m.versions t.version ≡ Some v
  pub so_far : LendsSoFar t k closed

-- the version, once it has read so far
abbrev pub come_home : Version → Ticket → ℕ → Bool → Version
come_home v t k closed = after_ticket v (read_to t k closed)

-- the events that a ticket lends
abbrev pub events_lent : List Event → Ticket → List Event
events_lent events t = take t.count (drop (t.first - 1) events)

-- the runs after the lent event at this place, from 0, was read, which is passed over where its number is in the snapshot
abbrev pub read_lent : Plan → List Event → ℕ → List ℕ → State → ℕ → State
read_lent q lent first snapshot s place =
    if is_among snapshot (first + place) then s
    else after_event q s (first + place) (slice_get lent place)

-- The runs after each count of lent events that are read on from these runs.
pub record FollowLent (q : Plan) (lent : List Event) (first : ℕ) (snapshot : List ℕ) (s : State) (after : ℕ → State) : Type 0 where
  pub begins : after 0 ≡ s
  pub next : (k : ℕ) → after (suc k) ≡ read_lent q lent first snapshot (after k) k

-- The reading of what a live version's ticket lends, from the version's runs on, leads to its runs once it has come home.
abbrev pub PiecesComeHome : Type 0
PiecesComeHome = (q : Plan) (m : Machine) (n : ℕ) (t : Ticket) (v : Version) (k : ℕ) (closed : Bool) (after : ℕ → State)
    → IsCompiled q → IsComingHome q m n t v k closed → FollowLent q (events_lent m.events t) t.first t.snapshot (inner q m.events v) after
    → (if closed then after_closing (after k) else after k) ≡ inner q m.events (come_home v t k closed)
