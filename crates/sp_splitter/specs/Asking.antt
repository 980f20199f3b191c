-- What the predictor is asked of the runs of a version, and what is kept of its answers. No public clause cites this.
use Rattle.std.specs.Prelude.{◌≡◌, ◌≢◌, ℕ, ◌<◌, ◌≤◌, true, List, [], length, map, min, slice_index_or, Some}
use Rattle.std.specs.List.{All}
use Rattle.std.specs.List.Sorted.{IsStrictlyIncreasing}
use Rattle.sp_base.specs.Limits.{whole_share}
use Rattle.sp_plan.specs.declared.plan.Plan.{Plan}
use Rattle.sp_plan.specs.Runs.{Started, used}
use Rattle.sp_match.specs.public.Matching.{Matching, left_at}
use Rattle.sp_group.specs.Machine.{Version, Machine, version_at, inner, is_group}
use Rattle.sp_group.specs.Rising.{has_number}
use Rattle.sp_spread.specs.Guessing.{left_of, coming}

-- the open groups of one version have the shares that are meant
abbrev pub IsGuessed : Plan → Machine → (ℕ → ℕ → ℕ) → (ℕ → ℕ → ℕ) → ℕ → Type 0
IsGuessed q m means share id =
    (v : Version) (r : ℕ) → version_at m.versions id ≡ Some v → is_group q (inner q m.events v) r ≡ true
    → share id r ≡ min whole_share (means (left_of q (inner q m.events v) r) (coming q m v))

-- the shares of all versions but one are as they were
abbrev pub AreKept : ℕ → (ℕ → ℕ → ℕ) → (ℕ → ℕ → ℕ) → Type 0
AreKept id old new = (other r : ℕ) → other ≢ id → new other r ≡ old other r

-- runs are numbered from 1 on, in rising order
pub record AreNumbered (runs : List Started) : Type 0 where
  pub rising : IsStrictlyIncreasing (map (λ run. run.0) runs)
  pub given : All (λ run. 1 ≤ run.0) runs

-- the run at a place
abbrev pub run_at : List Started → ℕ → Started
run_at runs place = slice_index_or runs place (0, [])

-- the run at a place, if it has a group, has the share that is meant for what it wants
abbrev pub IsAsked : Matching → (ℕ → ℕ → ℕ) → ℕ → (ℕ → ℕ) → ℕ → Type 0
IsAsked m means events share place =
    has_number (used m.plan (run_at m.open_runs place).1) ≡ true
    → share (run_at m.open_runs place).0 ≡ min whole_share (means (left_at m place) events)

-- and so has every run
abbrev pub AreAsked : Matching → (ℕ → ℕ → ℕ) → ℕ → (ℕ → ℕ) → Type 0
AreAsked m means events share = (place : ℕ) → place < length m.open_runs → IsAsked m means events share place
