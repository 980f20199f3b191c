-- What comes home in a turn, and what is learned of it.
use Rattle.std.specs.Prelude.{◌≡◌, ℕ, ◌+◌, List, [], ◌++◌, length, Option, Some, None}
use Rattle.std.specs.List.{flat_map}
use Rattle.sp_chance.specs.Taught.{TaughtOn}
use Rattle.sp_plan.specs.Runs.{State}
use Rattle.sp_match.specs.declared.moves.Moves.{Moves}
use Rattle.sp_match.specs.public.Matching.{Stands}
use Rattle.sp_hub.specs.State.{Posting}
use Rattle.sp_group.specs.Machine.{Version, version_at}
use Rattle.sp_piece.specs.Pieced.{Pieced, loan}
use Rattle.sp_piece.specs.Reading.{accounts_to, gathered, joined}
use Rattle.sp_core.specs.declared.given.Given.{Given}
use Rattle.sp_core.specs.Returning.{IsGiven}
use Rattle.sp_core.specs.Running.{Running}

-- what moves tell of how many events runs wanted before one more event, and after it
abbrev pub wanted_of : List Moves → List (ℕ × ℕ)
wanted_of moves = flat_map (λ entry. entry.wanted) moves

-- These pairs are what is gathered of what the reading of a piece tells of the events that runs wanted, from any runs for which its job's
-- matcher stands: none where no match can consume an event; and there are runs for which it stands.
pub record AreTold (p : Pieced) (pairs : List (ℕ × ℕ)) : Type 0 where
  pub some : (s : State) × Stands p.job.before s
  pub told : (s : State) → Stands p.job.before s → pairs ≡ (gathered p.job.before.plan (joined (accounts_to (loan p.job) s p.read p.closed))).wanted

-- What is learned of a piece is what is gathered of its reading, where its version is live, and else nothing.
abbrev pub IsLesson : Option Version → Pieced → List (ℕ × ℕ) → Type 0
IsLesson None p pairs = pairs ≡ []
IsLesson (Some v) p pairs = AreTold p pairs

-- So many pieces were given back, one after another, and these pairs were learned of them, each piece's before it was given back.
pub data GivesBack (old : Running) : Running → ℕ → List (ℕ × ℕ) → Type 0 where
  none_back : GivesBack old old 0 []
  one_back : (c d : Running) (count : ℕ) (pairs lesson : List (ℕ × ℕ)) (p : Pieced) (given : Given) → GivesBack old c count pairs
      → IsLesson (version_at c.machine.versions p.job.version) p lesson → IsGiven c d p given → GivesBack old d (count + 1) (pairs ++ lesson)

-- The predictor was taught what is learned of a piece. No public clause cites this.
pub record IsLearned (taught_before taught : List (ℕ × ℕ) → Type 0) (c : Running) (p : Pieced) : Type 0 where
  pub lesson : List (ℕ × ℕ)
  pub is : IsLesson (version_at c.machine.versions p.job.version) p lesson
  pub taught_on : TaughtOn taught_before lesson taught

-- Each piece that was collected was given back, and the predictor was taught what is learned of them.
pub record Gathered (taught_before taught : List (ℕ × ℕ) → Type 0) (old new : Running) (before after : Posting) : Type 0 where
  pub count : ℕ
  pub pairs : List (ℕ × ℕ)
  pub back : GivesBack old new count pairs
  pub collected : length after.got ≡ length before.got + count
  pub taught_on : TaughtOn taught_before pairs taught
