-- What a label can be, whether there is a number, and the least one that passes a test.
use Rattle.std.specs.Prelude.{◌≢◌, ℕ, zero, suc, ◌+◌, Bool, true, false, List, [], ◌∷◌, Option, Some, None, if◌then◌else◌}
use Rattle.std.specs.List.{All}
use Rattle.std.specs.List.Sorted.{IsStrictlyIncreasing}

-- whether there is a number at all
abbrev pub has_number : List ℕ → Bool
has_number [] = false
has_number (n ∷ ns) = true

-- the least of n numbers from first on that passes
abbrev pub least : (ℕ → Bool) → ℕ → ℕ → Option ℕ
least test first zero = None
least test first (suc n) = if test first then Some first else least test (first + 1) n

-- what a label can be: rising numbers of runs, which begin at 1
pub record IsLabel (runs : List ℕ) : Type 0 where
  pub rising : IsStrictlyIncreasing runs
  pub given : All (λ r. r ≢ 0) runs
