-- The rule of a register of jobs, and what entering one tells.
use Rattle.std.specs.Prelude.{◌≡◌, ℕ, ◌==◌, true, List, [], ◌∷◌, ◌++◌, length, MatchBool}
use Rattle.logbook.specs.Pages.{Cell, Step, View, Book, Named}
use Rattle.sp_piece.specs.declared.job.Job.{Job}

-- the first word is how many jobs are entered. A register has two words, of which this one leaves the second at 0
abbrev pub IsCounted : List Cell → List Job → Type 0
IsCounted cells log = cells ≡ (length log, true) ∷ (0, true) ∷ []

-- the word of a register
abbrev pub head_of : Book → Named
head_of b = record { tracked = true; key = 0; book = b }

-- the job came behind all that had been seen; or more was entered, and was seen
abbrev pub Entered : Step Job → View Job ℕ → ℕ → View Job ℕ → Type 0
Entered s v found w = MatchBool (found == s.old) (w.0 ≡ v.0 ++ s.ask ∷ []) (length w.0 ≡ found)
