-- The theorem over every list of steps: in whatever order they are taken, what is emitted is what processing the windows one after another
-- gives.
use Rattle.std.specs.Prelude.{◌≡◌, ◌↔◌, ◌⊎◌, ⊤, ℕ, ◌+◌, ◌<◌, ◌≤◌, Bool, true, false, List, [], ◌∷◌, ◌++◌, length, Some, None}
use Rattle.sp_base.specs.Limits.{live_limit}
use Rattle.sp_base.specs.Numbers.{is_among, with_numbers}
use Rattle.sp_plan.specs.declared.plan.Plan.{Plan}
use Rattle.sp_plan.specs.Compiled.{IsCompiled}
use Rattle.sp_plan.specs.Sequential.{seq, whole}
use Rattle.sp_plan.specs.Windows.{closed}
use Rattle.sp_plan.specs.WindowNumbers.{Good, count, size}
use Rattle.sp_group.specs.declared.refusal.Refusal.TheVariants as r
use Rattle.sp_group.specs.declared.step.Step.{Step}
use Rattle.sp_group.specs.declared.step.Step.TheVariants as s
use Rattle.sp_group.specs.Rising.{IsLabel}
use Rattle.sp_group.specs.Machine.{Version, Ticket, Machine, opening, version_at, ticket_at, root_in, inner, is_group, is_read, is_suppressed, conflict}
use Rattle.sp_group.specs.Refusing.{refusal}
use Rattle.sp_group.specs.Effects.{new_matches, popped, finished_one}
use Rattle.sp_group.specs.Steps.{step, steps}
use Rattle.sp_rules.specs.Kept.{Kept}

-- A step can be taken: an event that is fed fits the plan, and its time does not go back; the label of a spawn is one.
abbrev pub FitsStep : Plan → ℕ → Machine → Step → Type 0
FitsStep q bound m (s.Feed e) = refusal q bound m (s.Feed e) ≡ None → Good q (m.events ++ e ∷ [])
FitsStep q bound m (s.Spawn parent label) = IsLabel label
FitsStep q bound m s.End = ⊤
FitsStep q bound m (s.Lease id n) = ⊤
FitsStep q bound m (s.Event n) = ⊤
FitsStep q bound m (s.Return n) = ⊤
FitsStep q bound m (s.Roll id) = ⊤
FitsStep q bound m s.Finish = ⊤

-- steps that can be taken one after another, those that are refused among them
abbrev pub Fits : Plan → ℕ → Machine → List Step → Type 0
Fits q bound m [] = ⊤
Fits q bound m (x ∷ xs) = FitsStep q bound m x × Fits q bound (step q bound m x) xs

-- Nothing is taken back of a version on the way from one state to another: it stands behind no fewer events; each event that it had read it
-- has read, and each that it had skipped it has skipped; where it was done it is done; and what was suppressed for it is so still.
pub record TakesNothingBack (q : Plan) (m n : Machine) (id : ℕ) (before after : Version) : Type 0 where
  pub position : before.position ≤ after.position
  pub read : (i : ℕ) → is_read q m.events before i ≡ true → is_read q n.events after i ≡ true
  pub skipped : (i : ℕ) → is_among before.skipped i ≡ true → is_among after.skipped i ≡ true
  pub done : before.done ≡ true → after.done ≡ true
  pub suppressed : (i : ℕ) → is_suppressed q m id i ≡ true → is_suppressed q n id i ≡ true

-- What no step takes back: a version that is there after it, with an id given before it, was there before it, and nothing of it is taken
-- back.
abbrev pub Onward : Plan → Machine → Machine → Type 0
Onward q m n = (id : ℕ) (after : Version) → version_at n.versions id ≡ Some after → id < m.next_id
    → (before : Version) × (version_at m.versions id ≡ Some before) × TakesNothingBack q m n id before after

-- whether a step can give a version a new id
abbrev pub gives_id : Step → Bool
gives_id (s.Spawn parent label) = true
gives_id (s.Roll id) = true
gives_id s.Finish = true
gives_id (s.Feed e) = false
gives_id s.End = false
gives_id (s.Lease id n) = false
gives_id (s.Event n) = false
gives_id (s.Return n) = false

-- A version with a new id comes of a spawn, a roll or a finish alone; the id is the next one, and the version has read nothing.
abbrev pub Born : Step → Machine → Machine → Type 0
Born x m n = (id : ℕ) (v : Version) → version_at n.versions id ≡ Some v → m.next_id ≤ id
    → (gives_id x ≡ true) × (id ≡ m.next_id) × (v.position ≡ 0)

-- whether a step leaves each live version as it is
abbrev pub leaves_versions : Step → Bool
leaves_versions (s.Return n) = false
leaves_versions (s.Roll id) = false
leaves_versions s.Finish = false
leaves_versions (s.Feed e) = true
leaves_versions s.End = true
leaves_versions (s.Spawn parent label) = true
leaves_versions (s.Lease id n) = true
leaves_versions (s.Event n) = true

-- A feed, the end of input, a spawn, a lease and a reading leave each live version as it is.
abbrev pub Stays : Step → Machine → Machine → Type 0
Stays x m n = leaves_versions x ≡ true → (id : ℕ) (v : Version) → version_at m.versions id ≡ Some v → version_at n.versions id ≡ Some v

-- A version stands below another: that one is its parent, or its parent stands below that one.
pub data StandsBelow (vs : List Version) (a : ℕ) : ℕ → Type 0 where
  child : (id : ℕ) (v : Version) → version_at vs id ≡ Some v → v.parent ≡ Some a → StandsBelow vs a id
  deeper : (id p : ℕ) (v : Version) → version_at vs id ≡ Some v → v.parent ≡ Some p → StandsBelow vs a p → StandsBelow vs a id

-- A return loses no version but such as stand below the one whose ticket ends.
abbrev pub LosesBelow : Plan → ℕ → Machine → Type 0
LosesBelow q bound m = (number : ℕ) (t : Ticket) → ticket_at m.tickets number ≡ Some t → (id : ℕ) (v : Version) → version_at m.versions id ≡ Some v
    → ((w : Version) × (version_at (step q bound m (s.Return number)).versions id ≡ Some w)) ⊎ StandsBelow m.versions t.version id

-- A roll loses no version but the one that begins anew and such as stand below it.
abbrev pub LosesRolled : Plan → ℕ → Machine → Type 0
LosesRolled q bound m = (rolled id : ℕ) (v : Version) → version_at m.versions id ≡ Some v
    → ((w : Version) × (version_at (step q bound m (s.Roll rolled)).versions id ≡ Some w)) ⊎ ((id ≡ rolled) ⊎ StandsBelow m.versions rolled id)

-- A finish loses no version but the root, where the version that it makes the root is in no conflict.
abbrev pub LosesRoot : Plan → ℕ → Machine → Type 0
LosesRoot q bound m = (root : Version) → root_in m.versions ≡ Some root
    → ((next : Version) → root_in (popped q m root).versions ≡ Some next → conflict q (popped q m root) next ≡ None)
    → (id : ℕ) (v : Version) → version_at m.versions id ≡ Some v
    → ((w : Version) × (version_at (step q bound m s.Finish).versions id ≡ Some w)) ⊎ (id ≡ root.id)

-- which versions a return, a roll and a finish lose
pub record LosesFew (q : Plan) (bound : ℕ) (m : Machine) : Type 0 where
  pub returns : LosesBelow q bound m
  pub rolls : LosesRolled q bound m
  pub finishes : LosesRoot q bound m

-- A step of a ticket that is out for a version is accepted: its next reading, or its return.
pub record IsReturning (q : Plan) (bound : ℕ) (m : Machine) (v : Version) : Type 0 where
  pub ticket : Ticket
  pub is : ticket_at m.tickets ticket.number ≡ Some ticket
  pub of : ticket.version ≡ v.id
  pub returns : refusal q bound m (s.Return ticket.number) ≡ None

-- A step that goes on is accepted: the spawn of a root where none is live; else a lease of the root, or the return of its ticket, or a finish.
abbrev pub GoesOn : Plan → ℕ → Machine → Type 0
GoesOn q bound m =
    ((m.versions ≡ []) × (refusal q bound m (s.Spawn None []) ≡ None))
    ⊎ ((v : Version) × (root_in m.versions ≡ Some v)
    × (((n : ℕ) → refusal q bound m (s.Lease v.id n) ≡ None) ⊎ IsReturning q bound m v ⊎ (refusal q bound m s.Finish ≡ None)))

-- whether the next window can be worked on: it is closed, or holds a fed event that its root has not read
abbrev pub HasWork : Plan → Machine → Type 0
HasWork q m =
    (m.finished + 1 ≤ count q m.events)
    × ((v : Version) → root_in m.versions ≡ Some v → (v.window ≤ closed q m.events m.ended) ⊎ (v.position < size q m.events v.window))

-- What is emitted and consumed is what the finished windows give, one after another; a root that is done has the matches that its window
-- adds; where input has ended and all windows are finished, the whole is emitted.
pub record IsSequential (q : Plan) (m : Machine) : Type 0 where
  pub emitted : m.emitted ≡ (seq q m.events m.finished).matches
  pub consumed : m.consumed ≡ with_numbers [] (seq q m.events m.finished).consumed
  pub finished : m.finished ≤ closed q m.events m.ended
  pub root_done : (v : Version) → root_in m.versions ≡ Some v → v.done ≡ true
      → (seq q m.events (m.finished + 1)).matches ≡ m.emitted ++ new_matches q m v
  pub all : m.ended ≡ true → m.finished ≡ count q m.events → m.emitted ≡ (whole q m.events true).matches

-- A version is rolled exactly where it is in conflict, and so is the version that a finish makes the root; the root is in none.
pub record RollsWhereInConflict (q : Plan) (bound : ℕ) (m : Machine) : Type 0 where
  pub rolls : (id : ℕ) → (refusal q bound m (s.Roll id) ≡ None) ↔ ((v : Version) × (i : ℕ) × (version_at m.versions id ≡ Some v) × (conflict q m v ≡ Some i))
  pub promotes : (v u : Version) → root_in m.versions ≡ Some v → root_in (popped q m v).versions ≡ Some u
      → (conflict q (popped q m v) u ≡ None → finished_one q m (Some v) ≡ popped q m v)
      × ((i : ℕ) → conflict q (popped q m v) u ≡ Some i → (w : Version) × (root_in (finished_one q m (Some v)).versions ≡ Some w) × (w.id ≡ m.next_id))
  pub root_clear : (v : Version) → root_in m.versions ≡ Some v → conflict q m v ≡ None

-- All but the bound lets a child be spawned: its parent is live, an event has opened the window behind the parent's, the label names open
-- groups of the parent alone, and no child of the parent has it.
pub record CouldBeSpawned (q : Plan) (m : Machine) (p : ℕ) (label : List ℕ) : Type 0 where
  pub parent : Version
  pub live : version_at m.versions p ≡ Some parent
  pub begun : parent.window + 1 ≤ count q m.events
  pub names : (run : ℕ) → is_among label run ≡ true → is_group q (inner q m.events parent) run ≡ true
  pub free : (id : ℕ) (child : Version) → version_at m.versions id ≡ Some child → child.parent ≡ Some p → child.label ≡ label → ⊥

-- Live versions are at most as many as the bound; a step is refused as full exactly where a child is spawned at the bound, and all but the
-- bound would let it be.
pub record KeepsBound (q : Plan) (bound : ℕ) (m : Machine) : Type 0 where
  pub few : length m.versions ≤ bound
  pub full : (x : Step) (live of : ℕ) → refusal q bound m x ≡ Some (r.Full live of)
      → (live ≡ bound) × (of ≡ bound) × (length m.versions ≡ bound)
      × ((p : ℕ) × (label : List ℕ) × (x ≡ s.Spawn (Some p) label) × CouldBeSpawned q m p label)
  pub at_bound : (p : ℕ) (label : List ℕ) → length m.versions ≡ bound → CouldBeSpawned q m p label
      → refusal q bound m (s.Spawn (Some p) label) ≡ Some (r.Full bound bound)

-- what holds of each state that steps lead to
pub record Reached (q : Plan) (bound : ℕ) (m : Machine) : Type 0 where
  pub kept : Kept q m
  pub sequential : IsSequential q m
  pub onward : (x : Step) → FitsStep q bound m x → Onward q m (step q bound m x)
  pub born : (x : Step) → Born x m (step q bound m x)
  pub stays : (x : Step) → Stays x m (step q bound m x)
  pub loses : LosesFew q bound m
  pub rolling : RollsWhereInConflict q bound m
  pub goes_on : HasWork q m → GoesOn q bound m
  pub bounded : KeepsBound q bound m

-- Every list of steps, in whatever order, those that are refused among them, leads from the opening to such a state.
abbrev pub EverySchedule : Type 0
EverySchedule = (q : Plan) (bound : ℕ) (xs : List Step) → IsCompiled q → 1 ≤ bound → bound ≤ live_limit → Fits q bound opening xs
    → Reached q bound (steps q bound opening xs)
