-- How many events the runs wanted before an event, and want after it.
use Rattle.std.specs.Prelude.{◌≡◌, ◌≤◌, ℕ, Bool, true, List, [], ◌∷◌, length, map, if◌then◌else◌}
use Rattle.std.specs.List.{All, flat_map, zip}
use Rattle.sp_plan.specs.declared.plan.Plan.{Plan}
use Rattle.sp_plan.specs.Moves.{left}
use Rattle.sp_match.specs.inside.Kept.{Kept, pairs}
use Rattle.sp_match.specs.inside.Going.{IsIdle}
use Rattle.sp_match.specs.inside.Tally.{is_leaving}
use Rattle.sp_match.specs.declared.lefts.Lefts.{Lefts}

-- what each run wants
abbrev pub all_left : Plan → List Kept → List ℕ
all_left q ks = map (λ k. left q (pairs k)) ks

-- what a run wanted, and what it wants now, where it isn't abandoned
abbrev pub wanted_by : Plan → ℕ × Kept → List (ℕ × ℕ)
wanted_by q both = if is_leaving both.1.fate then [] else (both.0, left q (pairs both.1)) ∷ []

-- so of all runs
abbrev pub wanted_all : Plan → List ℕ → List Kept → List (ℕ × ℕ)
wanted_all q lefts ks = flat_map (wanted_by q) (zip lefts ks)

-- so of all runs where nothing changes
abbrev pub all_as_before : Plan → List Kept → List (ℕ × ℕ)
all_as_before q ks = map (λ k. (left q (pairs k), left q (pairs k))) ks

-- how many events these pairs tell to be wanted before
abbrev pub befores : List (ℕ × ℕ) → List ℕ
befores pairs = map (λ pair. pair.0) pairs

-- What is kept of what the runs want is so of these, where it is fresh.
abbrev pub AreLeft : Plan → List Kept → Lefts → Type 0
AreLeft q ks lefts = lefts.is_fresh ≡ true → lefts.wants ≡ all_as_before q ks

-- So many runs were open when an event came, and it is known what they wanted; where the event did nothing, the runs are as they were.
pub record HaveWanted (q : Plan) (count : ℕ) (wants : List (ℕ × ℕ)) (quiet : Bool) (old new : List Kept) : Type 0 where
  pub size : length old ≡ count
  pub within : count ≤ length new
  pub idle : All IsIdle old
  pub wants_are : wants ≡ all_as_before q old
  pub quiet_is : quiet ≡ true → new ≡ old
