-- Whole readings that are kept.
use Rattle.std.specs.Prelude.{◌≡◌, ℕ, ◌+◌, Bool, false, List, Option, length, map}
use Rattle.sp_plan.specs.declared.event.Event.{Event}
use Rattle.sp_plan.specs.declared.plan.Plan.{Plan}
use Rattle.sp_plan.specs.Runs.{State}
use Rattle.sp_match.specs.public.Laws.{Below}
use Rattle.sp_match.specs.public.Matching.{Matching, SameMatching, Stands, runs_of}
use Rattle.sp_match.specs.declared.moves.Moves.{Moves}
use Rattle.sp_piece.specs.declared.job.Job.{Job}
use Rattle.sp_piece.specs.Reading.{Loan, read_to, accounts_to, gathered, joined, seen_moves}
use Rattle.sp_piece.specs.Pieced.{Pieced}
use Rattle.sp_piece.specs.Keeping.{current}

-- what was lent to a reading: the matcher before, the events, the number of the first one, which numbers were to be skipped, and whether the
-- closing came behind them
pub record Lent : Type 0 where
  pub before : Matching
  pub events : List Event
  pub first : ℕ
  pub snapshot : List ℕ
  pub closes : Bool

-- it, to be read by the plan of its matcher
abbrev pub loan_of : Lent → Loan
loan_of lent = record { plan = lent.before.plan; events = lent.events; first = lent.first; snapshot = lent.snapshot }

-- what a job lends
abbrev pub lent_by : Job → Lent
lent_by job = record { before = job.before; events = job.events; first = job.first; snapshot = job.snapshot.list; closes = job.closes }

-- All that was lent was read, the closing too where it was lent: the matcher after it, the one before where there is no other, stands for
-- what that led to, and the moves tell of it, from any runs for which the matcher before stands.
pub record IsDone (lent : Lent) (after : Option Matching) (list : List Moves) : Type 0 where
  pub plan : (current after lent.before).plan ≡ lent.before.plan
  pub stands : (s : State) → Stands lent.before s → Stands (current after lent.before) (read_to (loan_of lent) s (length lent.events) lent.closes)
  pub tells : (s : State) → Stands lent.before s → joined (map seen_moves list) ≡ gathered lent.before.plan (joined (accounts_to (loan_of lent) s (length lent.events) lent.closes))
  pub below : Below (lent.first + length lent.events) (runs_of (current after lent.before))

-- As many events were lent as a job lends, from the same number on, with the same ones to be skipped, and the closing where the job lends it.
pub record LendsAs (lent : Lent) (job : Job) : Type 0 where
  pub first : lent.first ≡ job.first
  pub closes : lent.closes ≡ job.closes
  pub count : length lent.events ≡ length job.events
  pub snapshot : lent.snapshot ≡ job.snapshot.list

-- What was lent is what a job lends, but for where the parts of the plan lie in memory.
pub record LendsSame (lent : Lent) (job : Job) : Type 0 where
  pub like : LendsAs lent job
  pub events : lent.events ≡ job.events
  pub before : SameMatching lent.before job.before

-- a piece that has read all that its job lends
abbrev pub whole : Job → Pieced
whole job = record { job = job; read = length job.events; closed = job.closes; short = false }

-- the same runs by another plan
abbrev pub under : Plan → Matching → Matching
under q m = record m { plan = q }
