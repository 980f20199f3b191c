-- What the chance of an open group is asked with, and what it is held to be.
use Rattle.std.specs.Prelude.{◌≡◌, ℕ, ◌-◌, true, List, [], ◌∷◌, Some, min, ◌==◌, if◌then◌else◌}
use Rattle.sp_base.specs.Limits.{whole_share}
use Rattle.sp_plan.specs.declared.plan.Length.{Length}
use Rattle.sp_plan.specs.declared.plan.Length.TheVariants as counted
use Rattle.sp_plan.specs.declared.plan.Plan.{Plan}
use Rattle.sp_plan.specs.Moves.{left}
use Rattle.sp_plan.specs.Runs.{Run, Started, State}
use Rattle.sp_plan.specs.WindowNumbers.{size}
use Rattle.sp_group.specs.Machine.{Version, Machine, version_at, inner, is_group}

-- the pairs of the run of that number, none where there is none
abbrev pub run_of : List Started → ℕ → Run
run_of [] r = []
run_of (run ∷ runs) r = if run.0 == r then run.1 else run_of runs r

-- how many events an open run wants at least
abbrev pub left_of : Plan → State → ℕ → ℕ
left_of q s r = left q (run_of s.open_runs r)

-- How many events a version may still read: where the window counts events, those of its length that were not read; else those that were
-- fed and not read.
abbrev pub coming_in : Length → ℕ → ℕ → ℕ
coming_in (counted.Events n) fed position = n - position
coming_in (counted.Time d) fed position = fed - position

abbrev pub coming : Plan → Machine → Version → ℕ
coming q m v = coming_in q.length (size q m.events v.window) v.position

-- The share of each open group of a live version is the number that the predictor means for the events that it wants and those that may
-- come, at most the whole.
abbrev pub AreGuessed : Plan → Machine → (ℕ → ℕ → ℕ) → (ℕ → ℕ → ℕ) → Type 0
AreGuessed q m means share =
    (id : ℕ) (v : Version) (r : ℕ) → version_at m.versions id ≡ Some v → is_group q (inner q m.events v) r ≡ true
    → share id r ≡ min whole_share (means (left_of q (inner q m.events v) r) (coming q m v))
