-- What every state of the machine keeps that steps lead to.
use Rattle.std.specs.Prelude.{◌≡◌, ⊤, ℕ, ◌+◌, ◌<◌, ◌≤◌, Bool, true, false, List, [], ◌∷◌, Option, Some, None}
use Rattle.std.specs.List.Sorted.{IsStrictlyIncreasing}
use Rattle.sp_base.specs.Numbers.{is_among, with_numbers}
use Rattle.sp_plan.specs.declared.event.Event.{Event}
use Rattle.sp_plan.specs.declared.plan.Plan.{Plan}
use Rattle.sp_plan.specs.Runs.{State}
use Rattle.sp_plan.specs.Sequential.{seq}
use Rattle.sp_plan.specs.Windows.{closed}
use Rattle.sp_plan.specs.WindowNumbers.{Good, count, first, size}
use Rattle.sp_group.specs.Rising.{IsLabel}
use Rattle.sp_group.specs.Machine.{Version, Ticket, Machine, version_at, ticket_at, is_out, inner, is_group, is_suppressed, is_hit}

-- A version with a parent, among the older versions: the parent is there, and of the window before; the label names open groups of the
-- parent; no other child of the parent has the label.
pub record Child (q : Plan) (f : Version → State) (vs : List Version) (v : Version) (p : ℕ) : Type 0 where
  pub parent : Version
  pub is : version_at vs p ≡ Some parent
  pub next : v.window ≡ parent.window + 1
  pub names : (r : ℕ) → is_among v.label r ≡ true → is_group q (f parent) r ≡ true
  pub apart : (id : ℕ) (w : Version) → version_at vs id ≡ Some w → w.parent ≡ Some p → w.label ≡ v.label → ⊥

-- where a version stands: the root is the oldest of all, of the first window that is not finished, and its label is empty
abbrev pub Stands : Plan → (Version → State) → ℕ → List Version → Version → Option ℕ → Type 0
Stands q f finished vs v None = (vs ≡ []) × (v.window ≡ finished + 1) × (v.label ≡ [])
Stands q f finished vs v (Some p) = Child q f vs v p

-- a version in front of the older ones: its id is the greatest, and its label is one
pub record Placed (q : Plan) (f : Version → State) (finished : ℕ) (vs : List Version) (v : Version) : Type 0 where
  pub newest : (id : ℕ) (w : Version) → version_at vs id ≡ Some w → id < v.id
  pub labelled : IsLabel v.label
  pub stands : Stands q f finished vs v v.parent

-- the versions, as a tree
abbrev pub Shape : Plan → (Version → State) → ℕ → List Version → Type 0
Shape q f finished [] = ⊤
Shape q f finished (v ∷ vs) = Placed q f finished vs v × Shape q f finished vs

-- A ticket that is out for a live version, for which these events are suppressed: the version is not done; the ticket begins behind what
-- the version has read, stays within its window, and has the closing only where it reaches the end of a closed window; what its snapshot
-- names is suppressed, and not before its first event; no more is read of it than it lends, and the closing only behind all that.
pub record Lent (q : Plan) (events : List Event) (ended : Bool) (suppressed : ℕ → Bool) (v : Version) (t : Ticket) : Type 0 where
  pub begins : t.first ≡ first q events v.window + v.position
  pub fits : v.position + t.count ≤ size q events v.window
  pub closes : t.closes ≡ true → (v.window ≤ closed q events ended) × (v.position + t.count ≡ size q events v.window)
  pub undone : v.done ≡ false
  pub snapshot : (i : ℕ) → is_among t.snapshot i ≡ true → (suppressed i ≡ true) × (t.first ≤ i)
  pub reads : t.read ≤ t.count
  pub shuts : t.closing_read ≡ true → (t.closes ≡ true) × (t.read ≡ t.count)

-- A live version, for which these events are suppressed: its window has begun, and it has read no more of that than was fed; the numbers
-- that it skipped rise, are suppressed, and are below that of the next event that it reads; where it is done its window is closed, and it
-- has read all of it; at most one ticket is out for it, and that lends as a ticket of a live version does.
pub record Local (q : Plan) (events : List Event) (ended : Bool) (tickets : List Ticket) (suppressed : ℕ → Bool) (v : Version) : Type 0 where
  pub there : (1 ≤ v.window) × (v.window ≤ count q events)
  pub reads : v.position ≤ size q events v.window
  pub rising : IsStrictlyIncreasing v.skipped
  pub skips : (i : ℕ) → is_among v.skipped i ≡ true → suppressed i ≡ true
  pub read_them : (i : ℕ) → is_among v.skipped i ≡ true → i < first q events v.window + v.position
  pub done : v.done ≡ true → (v.window ≤ closed q events ended) × (v.position ≡ size q events v.window)
  pub lent : (n : ℕ) (t : Ticket) → ticket_at tickets n ≡ Some t → t.version ≡ v.id → Lent q events ended suppressed v t
  pub only : (n m : ℕ) (t u : Ticket) → ticket_at tickets n ≡ Some t → ticket_at tickets m ≡ Some u → t.version ≡ v.id → u.version ≡ v.id → n ≡ m

-- the newest ticket first
abbrev pub NewestFirst : List Ticket → Type 0
NewestFirst [] = ⊤
NewestFirst (t ∷ ts) = ((n : ℕ) (u : Ticket) → ticket_at ts n ≡ Some u → n < t.number) × NewestFirst ts

-- All but that the root is in no conflict: the tree, each version, the numbers in use below the next ones; and what is emitted and
-- consumed is what processing the finished windows one after another gives.
pub record Sane (q : Plan) (m : Machine) : Type 0 where
  pub shape : Shape q (inner q m.events) m.finished m.versions
  pub each : (id : ℕ) (v : Version) → version_at m.versions id ≡ Some v → Local q m.events m.ended m.tickets (is_suppressed q m id) v
  pub ids : (id : ℕ) (v : Version) → version_at m.versions id ≡ Some v → id < m.next_id
  pub newest_first : NewestFirst m.tickets
  pub numbers : (n : ℕ) (t : Ticket) → ticket_at m.tickets n ≡ Some t → n < m.next_ticket
  pub unborn : (id : ℕ) → m.next_id ≤ id → is_out m.tickets id ≡ false
  pub emitted : m.emitted ≡ (seq q m.events m.finished).matches
  pub consumed : m.consumed ≡ with_numbers [] (seq q m.events m.finished).consumed
  pub closed : m.finished ≤ closed q m.events m.ended
  pub good : Good q m.events

-- and the root is in no conflict
pub record Kept (q : Plan) (m : Machine) : Type 0 where
  pub sane : Sane q m
  pub clear : (id : ℕ) (v : Version) → version_at m.versions id ≡ Some v → v.parent ≡ None → (i : ℕ) → is_hit q m v i ≡ true → ⊥
