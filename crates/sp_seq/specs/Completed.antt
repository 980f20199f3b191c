-- Matches as the completions of runs tell of them.
use Rattle.std.specs.Prelude.{ℕ, ◌+◌, List, [], ◌++◌, length, map}
use Rattle.std.specs.List.{enumerate_from}
use Rattle.sp_plan.specs.declared.found.Match.{Match}
use Rattle.sp_plan.specs.declared.plan.Plan.{Plan}
use Rattle.sp_plan.specs.Runs.{State, matched_runs}
use Rattle.sp_plan.specs.Sequential.{match_of}
use Rattle.sp_plan.specs.Moves.{Told, OpenedTold, GrownTold, CompletedTold, AbandonedTold}

-- the match of a window that a completion tells of
abbrev pub match_told : ℕ → ℕ → Told → Match
match_told window number (CompletedTold run bound used) = record { window = window; number = number; bound = bound; used = used }
match_told window number (OpenedTold run) = record { window = window; number = number; bound = []; used = [] }
match_told window number (GrownTold run event) = record { window = window; number = number; bound = []; used = [] }
match_told window number (AbandonedTold run) = record { window = window; number = number; bound = []; used = [] }

-- the matches of completions, of which the first has this number
abbrev pub matches_told : ℕ → ℕ → List Told → List Match
matches_told window first completions = map (λ pair. match_told window pair.0 pair.1) (enumerate_from first completions)

-- the matches of a window's runs behind older matches
abbrev pub with_matches : Plan → ℕ → List Match → State → List Match
with_matches q window old s = old ++ map (match_of q window) (enumerate_from (length old + 1) (matched_runs s))
