-- What a piece that comes home does to the versions, said by groups: which of its version's groups are open still, and what became of the
-- others.
use Rattle.std.specs.Prelude.{◌≡◌, ◌⊎◌, ℕ, Bool, true, not, ◌&&◌, List, ◌++◌, filter, map, Option, Some, None, ◌==◌, if◌then◌else◌}
use Rattle.std.specs.List.{flat_map, list_any}
use Rattle.std.specs.List.Sorted.{IsStrictlyIncreasing}
use Rattle.sp_base.specs.Numbers.{is_among}
use Rattle.sp_plan.specs.declared.event.Event.{Event}
use Rattle.sp_plan.specs.declared.plan.Plan.{Plan}
use Rattle.sp_plan.specs.Compiled.{IsCompiled}
use Rattle.sp_plan.specs.Runs.{Started, State, used}
use Rattle.sp_plan.specs.Groups.{used_by_all}
use Rattle.sp_match.specs.public.Laws.{Sound}
use Rattle.sp_group.specs.declared.outcome.Outcome.{Outcome}
use Rattle.sp_group.specs.declared.outcome.Outcome.TheVariants.{Completed, Abandoned}
use Rattle.sp_group.specs.Rising.{IsLabel, has_number}
use Rattle.sp_group.specs.Deciding.{others_than, foresaw_all}
use Rattle.sp_group.specs.Family.{is_parent, prune}
use Rattle.sp_group.specs.Machine.{Version, Ticket, Machine, kin, inner, is_group, is_spent}
use Rattle.sp_group.specs.Effects.{is_newly_spent, child_after, after_reading}
use Rattle.sp_rules.specs.ComingHome.{IsComingHome, come_home}

-- those of these runs that bind an event to a consumed name, by their numbers
abbrev pub using_runs : Plan → List Started → List ℕ
using_runs q runs = map (λ run. run.0) (filter (λ run. has_number (used q run.1)) runs)

-- the open runs that have a group, by rising number
abbrev pub grouped : Plan → State → List ℕ
grouped q s = using_runs q s.open_runs

-- They are a label, and those of which it is said that they have a group.
pub record HasGroups (q : Plan) (s : State) : Type 0 where
  pub label : IsLabel (grouped q s)
  pub are : (run : ℕ) → is_among (grouped q s) run ≡ is_group q s run
  pub any : (run : ℕ) → list_any (λ one. one.0 == run && has_number (used q one.1)) s.open_runs ≡ is_group q s run

-- The runs of a version use each number once, and have their groups.
pub record VersionHasGroups (q : Plan) (events : List Event) (v : Version) : Type 0 where
  pub sound : Sound (inner q events v)
  pub groups : HasGroups q (inner q events v)

abbrev pub VersionsHaveGroups : Type 0
VersionsHaveGroups = (q : Plan) (events : List Event) (v : Version) → IsCompiled q → VersionHasGroups q events v

-- what became of a run with a group that has none in the runs t
abbrev pub outcome_in : Plan → State → ℕ → Outcome
outcome_in q t run = if is_spent q t run then Completed else Abandoned

-- those of these runs that have no group in the runs t
abbrev pub ended : Plan → State → List ℕ → List ℕ
ended q t groups = filter (λ run. not (is_group q t run)) groups

-- Matches came behind the others on the way from the runs s to the runs t: those of them that used an event are the runs of which this is
-- said, and what they used comes behind what was used before.
pub record AddsMatches (q : Plan) (s t : State) : Type 0 where
  pub later : List Started
  pub matched : t.matched ≡ s.matched ++ later
  pub spent : (run : ℕ) → is_newly_spent q s t run ≡ is_among (using_runs q later) run
  pub used : used_by_all q t ≡ used_by_all q s ++ flat_map (used q) (map (λ run. run.1) later)

-- A piece that comes home adds matches to those of its version.
abbrev pub ComingHomeAddsMatches : Type 0
ComingHomeAddsMatches = (q : Plan) (m : Machine) (n : ℕ) (t : Ticket) (v : Version) (k : ℕ) (closed : Bool) → IsCompiled q → IsComingHome q m n t v k closed
    → AddsMatches q (inner q m.events v) (inner q m.events (come_home v t k closed))

-- These are the runs that have a group in the runs s or in the runs t, or matched on the way from s to t and used an event.
pub record AreToDecide (q : Plan) (s t : State) (groups : List ℕ) : Type 0 where
  pub rising : IsStrictlyIncreasing groups
  pub before : (run : ℕ) → is_group q s run ≡ true → is_among groups run ≡ true
  pub after : (run : ℕ) → is_group q t run ≡ true → is_among groups run ≡ true
  pub spent : (run : ℕ) → is_newly_spent q s t run ≡ true → is_among groups run ≡ true
  pub only : (run : ℕ) → is_among groups run ≡ true → (is_group q s run ≡ true) ⊎ (is_group q t run ≡ true) ⊎ (is_newly_spent q s t run ≡ true)

-- a child of the owner of decided groups: it stays where its label foresaw each outcome, and its label loses the groups
abbrev pub child_of_decided : (ℕ → Outcome) → List ℕ → Version → Option Version
child_of_decided outcome runs v = if foresaw_all outcome runs v.label then Some (record v { label = others_than runs v.label }) else None

-- what decisions do to each version: the owner is renewed, its children stay or go, and the others are as they were
abbrev pub after_decisions : ℕ → Version → (ℕ → Outcome) → List ℕ → Version → Option Version
after_decisions id new outcome runs v =
    if v.id == id then Some new
    else if is_parent id v.parent then child_of_decided outcome runs v
    else Some v

-- Where the runs of a version went from s to t, and these groups of it are decided: it keeps the groups of t; what the decisions do to a
-- child whose label names groups of s is what the reading does to it, and so are the versions.
pub record IsByGroups (q : Plan) (m : Machine) (v new : Version) (s t : State) (groups : List ℕ) : Type 0 where
  pub keeps : others_than (ended q t groups) groups ≡ grouped q t
  pub child : (w : Version) → ((run : ℕ) → is_among w.label run ≡ true → is_group q s run ≡ true) → child_of_decided (outcome_in q t) (ended q t groups) w ≡ child_after q s t w
  pub versions : prune kin (after_decisions v.id new (outcome_in q t) (ended q t groups)) m.versions ≡ prune kin (after_reading q v.id new s t) m.versions

-- A piece that comes home does to the versions what the decisions of its version's groups do.
abbrev pub ReturnsByGroups : Type 0
ReturnsByGroups = (q : Plan) (m : Machine) (n : ℕ) (t : Ticket) (v : Version) (k : ℕ) (closed : Bool) (groups : List ℕ) → IsCompiled q → IsComingHome q m n t v k closed
    → (let new = come_home v t k closed in
    let before = inner q m.events v in
    let after = inner q m.events new in
    AreToDecide q before after groups → IsByGroups q m v new before after groups)
