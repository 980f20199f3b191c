-- What holds of every line of a table.
use Rattle.std.specs.Prelude.{ℕ, ◌<◌, ◌≤◌, ◌^◌, List, length}
use Rattle.std.specs.List.{All}
use Rattle.sp_gen.specs.Generated.{lines}

-- A line of 1 to 26 bytes, each from the comma to the letter z: so no blank, no quote and no end of a line is among them.
pub record IsPlainLine (line : List ℕ) : Type 0 where
  pub bytes : All (λ b. (44 ≤ b) × (b ≤ 122)) line
  pub some : 0 < length line
  pub short : length line ≤ 26

-- The lines of each table are such lines.
abbrev pub LinesArePlain : Type 0
LinesArePlain = (events seed : ℕ) → events < 2 ^ 32 → All IsPlainLine (lines events seed)
