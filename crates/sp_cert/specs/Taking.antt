-- Matches taken off the front of others.
use Rattle.std.specs.Prelude.{◌≡◌, ℕ, Bool, false, List, [], ◌∷◌, ◌++◌, ◌==◌}
use Rattle.std.specs.List.{All}
use Rattle.sp_plan.specs.declared.found.Match.{Match}

-- whether the first of the matches is one of the window
abbrev pub begins_with : ℕ → List Match → Bool
begins_with window [] = false
begins_with window (one ∷ more) = one.window == window

-- Of these matches the first ones are of the window, and the rest, which begins with none of it, stands behind them.
pub record IsFront (window : ℕ) (matches own rest : List Match) : Type 0 where
  pub parts : matches ≡ own ++ rest
  pub own_are : All (λ one. one.window ≡ window) own
  pub stops : begins_with window rest ≡ false
