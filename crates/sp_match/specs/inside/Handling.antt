-- An event has been handled, but the runs that leave are still there.
use Rattle.std.specs.Prelude.{◌≡◌, ℕ, ◌+◌, Bool, List, length, map, take, if◌then◌else◌}
use Rattle.std.specs.List.{All}
use Rattle.sp_plan.specs.declared.plan.Plan.{Plan}
use Rattle.sp_plan.specs.Windows.{Numbered}
use Rattle.sp_plan.specs.Runs.{State}
use Rattle.sp_plan.specs.Moves.{Told, act}
use Rattle.sp_match.specs.public.Laws.{Ordered}
use Rattle.sp_match.specs.inside.Kept.{Kept, started}
use Rattle.sp_match.specs.inside.Good.{Good}
use Rattle.sp_match.specs.inside.Going.{standing}
use Rattle.sp_match.specs.inside.Shows.{Shows}
use Rattle.sp_match.specs.inside.Tally.{Tally}

-- how many runs have started
abbrev pub count_after : ℕ → Bool → ℕ
count_after count began = if began then count + 1 else count

-- The runs and what is told are those of the event's handling; the runs that were there are as the moves have it, and all keep what every run keeps, and their order.
pub record IsHandled (q : Plan) (x : Numbered) (count : ℕ) (old : List Kept) (began : Bool) (new : List Kept) (ts : List Told) : Type 0 where
  pub shows : (s : State) → s.open_runs ≡ map started old → s.started ≡ count → Shows q s (act q s x) new ts
  pub started_is : (s : State) → s.open_runs ≡ map started old → s.started ≡ count → (act q s x).now.started ≡ count_after count began
  pub tally : (s : State) → s.open_runs ≡ map started old → s.started ≡ count → All (Tally x.0 (act q s x).moves) (take (length old) new)
  pub good : All (Good q) new
  pub ordered : Ordered (standing (count_after count began) new)
