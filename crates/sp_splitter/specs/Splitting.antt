-- The jobs that a splitter keeps.
use Rattle.std.specs.Prelude.{ℕ, ◌<◌, List, [], ◌∷◌, map}
use Rattle.sp_piece.specs.declared.job.Job.{Job}

-- tickets that rise, all above one number and below another
abbrev pub RiseBetween : ℕ → List ℕ → ℕ → Type 0
RiseBetween low [] high = low < high
RiseBetween low (n ∷ ns) high = (low < n) × RiseBetween n ns high

-- the ticket that was posted last is below those of the jobs that are kept, and all of them are below the next one
abbrev pub IsBelowKept : ℕ → List Job → ℕ → Type 0
IsBelowKept last kept next = RiseBetween last (map (λ job. job.ticket) kept) next
