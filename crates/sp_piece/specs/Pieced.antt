-- A piece as its callers see it, and what a step does to it.
use Rattle.std.specs.Prelude.{◌≡◌, ℕ, zero, suc, ◌+◌, Bool, true, false, ◌&&◌, not, length, nat_lt, List, map, if◌then◌else◌}
use Rattle.sp_plan.specs.Runs.{State}
use Rattle.sp_match.specs.public.Matching.{Matching, Stands}
use Rattle.sp_match.specs.declared.moves.Moves.{Moves}
use Rattle.sp_piece.specs.declared.job.Job.{Job}
use Rattle.sp_piece.specs.declared.stepped.Stepped.{Stepped}
use Rattle.sp_piece.specs.declared.stepped.Stepped.TheVariants as s
use Rattle.sp_piece.specs.Reading.{Loan, skips, read_to, accounts_to, gathered, joined, seen_moves}

-- its job, how many of the lent events it has read, whether it has read the closing, and whether memory was refused
pub record Pieced : Type 0 where
  pub job : Job
  pub read : ℕ
  pub closed : Bool
  pub short : Bool

-- what a job lends
abbrev pub loan : Job → Loan
loan job = record { plan = job.before.plan; events = job.events; first = job.first; snapshot = job.snapshot.list }

-- nothing is read
abbrev pub begun : Job → Pieced
begun job = record { job = job; read = 0; closed = false; short = false }

-- whether a lent event is still to be read: none is where the piece was given up
abbrev pub has_event : Pieced → Bool
has_event p = not p.short && nat_lt p.read (length p.job.events)

-- whether the closing is next
abbrev pub has_closing : Pieced → Bool
has_closing p = not p.short && not (nat_lt p.read (length p.job.events)) && not p.closed && p.job.closes

-- the next lent event is read; behind the last one the closing, where it is lent too; then, and where the piece was given up, nothing
-- changes
abbrev pub after_step : Pieced → Pieced
after_step p = record p {
  read = if has_event p then p.read + 1 else p.read;
  closed = if has_closing p then true else p.closed;
}

-- so many steps, one after another
abbrev pub after_steps : ℕ → Pieced → Pieced
after_steps zero p = p
after_steps (suc n) p = after_step (after_steps n p)

-- Steps lead from one to the other.
abbrev pub StepsLead : Pieced → Pieced → Type 0
StepsLead p later = (n : ℕ) × (later ≡ after_steps n p)

-- all that was lent is read, and the closing where it was lent too; where the piece was given up nothing changes
abbrev pub read_whole : Pieced → Pieced
read_whole p = if p.short then p else record p { read = length p.job.events; closed = p.job.closes }

-- memory was refused
abbrev pub refused : Pieced → Pieced
refused p = record p { short = true }

-- what a step answers: which event was read and whether it was passed over; that the closing was read; that all was read before, or the
-- piece was given up
abbrev pub answer : Pieced → Stepped
answer p =
    if has_event p then s.Read (p.job.first + p.read) (skips (loan p.job) p.read)
    else if has_closing p then s.Closed else s.Finished

-- The matcher stands for what the reading led to from any runs for which the matcher of the job stands, with the same plan.
pub record LedTo (p : Pieced) (m : Matching) : Type 0 where
  pub plan : m.plan ≡ p.job.before.plan
  pub stands : (s : State) → Stands p.job.before s → Stands m (read_to (loan p.job) s p.read p.closed)

-- The moves, one after another, are what is gathered of what is told, from any runs for which the matcher of the job stands: the completions
-- by each event that was read and not passed over, in their order. One entry may tell of several of these.
abbrev pub Tells : Pieced → List Moves → Type 0
Tells p list = (s : State) → Stands p.job.before s → joined (map seen_moves list) ≡ gathered p.job.before.plan (joined (accounts_to (loan p.job) s p.read p.closed))
