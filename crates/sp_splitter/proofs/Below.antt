-- Tickets of kept jobs are below the next one's number, whichever comes later.
use Rattle.std.proofs.Common.{ℕ, ◌≤◌, List, [], ◌∷◌, map, arith}
use Rattle.sp_piece.specs.declared.job.Job.{Job}
use Rattle.sp_splitter.specs.Splitting.{RiseBetween, IsBelowKept}

rise_later : (low : ℕ) (tickets : List ℕ) (next later : ℕ) → next ≤ later → RiseBetween low tickets next → RiseBetween low tickets later
rise_later low [] next later most below = omega arith
rise_later low (n ∷ tickets) next later most below = (below.0, rise_later n tickets next later most below.1)

pub below_later : (last : ℕ) (kept : List Job) (next later : ℕ) → next ≤ later → IsBelowKept last kept next → IsBelowKept last kept later
below_later last kept next later most below = rise_later last (map (λ job. job.ticket) kept) next later most below
