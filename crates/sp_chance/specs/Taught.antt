-- What a predictor was taught.
use Rattle.std.specs.Prelude.{ℕ, List, ◌++◌}

-- Whatever pairs it was taught before, behind them it was taught these.
abbrev pub TaughtOn : (List (ℕ × ℕ) → Type 0) → List (ℕ × ℕ) → (List (ℕ × ℕ) → Type 0) → Type 0
TaughtOn before pairs after = (earlier : List (ℕ × ℕ)) → before earlier → after (earlier ++ pairs)
