-- Calls of a sink in memory that are told to fail.
use Rattle.std.specs.Prelude.{ℕ, List, min, Option, Some, None, find, ◌==◌}
use Rattle.std.specs.Option.{option_map}

-- how many bytes a call keeps, where it is to fail: the first pair of its number says it
abbrev pub kept_at : List (ℕ × ℕ) → ℕ → Option ℕ
kept_at fails call = option_map (λ pair. pair.1) (find (λ pair. pair.0 == call) fails)

-- how many bytes of a piece a call would keep with room enough
abbrev pub wanted_of : Option ℕ → ℕ → ℕ
wanted_of None size = size
wanted_of (Some kept) size = min size kept
