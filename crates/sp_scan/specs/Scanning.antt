-- The runs of a window, as they are scanned.
use Rattle.std.specs.Prelude.{ℕ, ◌+◌, ◌-◌, List, map}
use Rattle.sp_plan.specs.declared.event.Event.{Event}
use Rattle.sp_plan.specs.declared.plan.Plan.{Plan}
use Rattle.sp_plan.specs.Reading.{reading}
use Rattle.sp_plan.specs.Runs.{Run, bindings, matched_runs, used}
use Rattle.sp_scan.specs.declared.found.Found.{Found}

-- what a run that matched comes to
abbrev pub found_of : Plan → Run → Found
found_of q run = record { bound = bindings q run; used = used q run }

-- the matches of the events of a window from the first to the last, without those that are skipped
abbrev pub scanned_of : Plan → List Event → ℕ → ℕ → List ℕ → List Found
scanned_of q events first last skipped = map (found_of q) (matched_runs (reading q events skipped first (last + 1 - first)))
