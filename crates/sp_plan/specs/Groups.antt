-- Runs by their numbers: which are open, which have matched, and which events they hold for consumption.
use Rattle.std.specs.Prelude.{ℕ, Bool, List}
use Rattle.std.specs.List.{list_any, flat_map}
use Rattle.sp_plan.specs.declared.plan.Plan.{Plan}
use Rattle.sp_plan.specs.Runs.{State, used, matched_runs}
use Rattle.sp_plan.specs.Moves.{is_run, pairs_of}

-- whether a run of that number is open
abbrev pub is_open : State → ℕ → Bool
is_open s r = list_any (is_run r) s.open_runs

-- whether a run of that number has matched
abbrev pub is_matched : State → ℕ → Bool
is_matched s r = list_any (is_run r) s.matched

-- the consumption group of an open run: the numbers that it binds to consumed names
abbrev pub group : Plan → State → ℕ → List ℕ
group q s r = used q (pairs_of s.open_runs r)

-- the numbers that a run's match used
abbrev pub used_by : Plan → State → ℕ → List ℕ
used_by q s r = used q (pairs_of s.matched r)

-- the numbers that all matches used
abbrev pub used_by_all : Plan → State → List ℕ
used_by_all q s = flat_map (used q) (matched_runs s)
