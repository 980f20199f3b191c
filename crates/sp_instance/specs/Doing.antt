-- What doing a job comes to, and what an instance did with the jobs that it took.
use Rattle.std.specs.Prelude.{◌≡◌, ℕ, false, List, [], ◌∷◌, length, map}
use Rattle.std.specs.List.{All}
use Rattle.sp_hub.specs.declared.taken.Taken.{Taken}
use Rattle.sp_hub.specs.declared.taken.Taken.TheVariants as taken
use Rattle.sp_piece.specs.declared.job.Job.{Job}
use Rattle.sp_piece.specs.Pieced.{Pieced}

-- the job that an answer gives, if it gives one
abbrev pub given_by : Taken Job → List Job
given_by (taken.Job job) = job ∷ []
given_by taken.Empty = []
given_by taken.Closed = []

-- all that the job lends is read: each event, and the closing exactly where it is lent
pub record IsWhole (p : Pieced) : Type 0 where
  pub events : p.read ≡ length p.job.events
  pub closing : p.closed ≡ p.job.closes

-- a job is done: its piece is whole, or it was given up for want of memory
abbrev pub IsDone : Pieced → Type 0
IsDone p = p.short ≡ false → IsWhole p

-- Jobs were taken and pieces put: the pieces are those of the jobs, one for each, in their order, and each is done.
pub record Worked (did : List Job → List Pieced → Type 0) : Type 0 where
  pub jobs : List Job
  pub pieces : List Pieced
  pub were : did jobs pieces
  pub theirs : map (λ p. p.job) pieces ≡ jobs
  pub done : All IsDone pieces

-- so it was with so many jobs
pub record WorkedSome (did : List Job → List Pieced → Type 0) (count : ℕ) : Type 0 where
  pub worked : Worked did
  pub counted : length worked.jobs ≡ count
