-- What is to be rolled.
use Rattle.std.specs.Prelude.{◌≡◌, ◌≢◌, ◌⊎◌, ℕ, ◌<◌, ◌≤◌, List, Some, None}
use Rattle.std.specs.List.{All, Contains}
use Rattle.std.specs.Ordering.{nat_cmp, ordering_then}
use Rattle.std.specs.declared.cmp.Ordering.{Ordering}
use Rattle.sp_plan.specs.declared.plan.Plan.{Plan}
use Rattle.sp_group.specs.declared.step.Step.TheVariants as s
use Rattle.sp_group.specs.Machine.{Version, Machine, version_at, conflict}
use Rattle.sp_core.specs.Running.{IsDone, Running}
use Rattle.sp_splitter.specs.Stages.{Goes, NoneEmitted, NoneRead, Went}

-- by the least window, then the least id
abbrev pub IsNoLater : ℕ × ℕ → ℕ × ℕ → Type 0
IsNoLater one other = (one.0 < other.0) ⊎ ((one.0 ≡ other.0) × (one.1 ≤ other.1))

-- No version that is in conflict comes before the one of this id: none is of an earlier window, nor of its own with a lesser id.
pub record IsFirstInConflict (q : Plan) (m : Machine) (id : ℕ) : Type 0 where
  pub version : Version
  pub live : version_at m.versions id ≡ Some version
  pub first : (other : ℕ) (v : Version) → version_at m.versions other ≡ Some v → conflict q m v ≢ None → IsNoLater (version.window, id) (v.window, other)

-- Versions in conflict were rolled, one after another, each the first of them.
pub data Rolls (old : Running) : Running → Type 0 where
  none_rolled : Rolls old old
  one_rolled : (c d : Running) (id : ℕ) → Rolls old c → IsFirstInConflict c.plan c.machine id → IsDone (s.Roll id) c d → Rolls old d

-- ---- What a list of versions says that are in conflict. No public clause cites this.

-- the version of an id is in no conflict, where it is live
abbrev pub IsCalm : Plan → Machine → ℕ → Type 0
IsCalm q m id = (v : Version) → version_at m.versions id ≡ Some v → conflict q m v ≡ None

-- a live version that is in conflict stands in a list, behind its window
abbrev pub IsListed : Plan → Machine → List (ℕ × ℕ) → ℕ → Type 0
IsListed q m found id = (v : Version) → version_at m.versions id ≡ Some v → conflict q m v ≢ None → Contains found (v.window, id)

-- a live version that is in conflict and stands in a list stands behind its window
abbrev pub IsOfWindow : Plan → Machine → ℕ × ℕ → Type 0
IsOfWindow q m entry = (v : Version) → version_at m.versions entry.1 ≡ Some v → conflict q m v ≢ None → v.window ≡ entry.0

-- all that are in conflict stand in a list, each behind its window
pub record AreListed (q : Plan) (m : Machine) (found : List (ℕ × ℕ)) : Type 0 where
  pub all : (id : ℕ) → IsListed q m found id
  pub windows : All (IsOfWindow q m) found

-- windows first, then ids
abbrev pub place_cmp : ℕ × ℕ → ℕ × ℕ → Ordering
place_cmp one other = ordering_then (nat_cmp one.0 other.0) (nat_cmp one.1 other.1)

-- steps that emit nothing and bring home nothing that was read, for any number of instances
pub record Quiet (old new : Running) : Type 0 where
  pub went : (n batch : ℕ) → Went n batch old new
  pub goes : (n : ℕ) → Goes n old new
  pub emitted : NoneEmitted old new
  pub read : NoneRead old new

-- a version was rolled, or that was refused and nothing was done
abbrev pub RollsOne : ℕ → Running → Running → Type 0
RollsOne id old new = IsDone (s.Roll id) old new ⊎ (new ≡ old)
