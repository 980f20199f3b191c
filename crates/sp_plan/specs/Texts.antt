-- Texts by their numbers.
use Rattle.std.specs.Prelude.{ℕ, List, [], ◌∷◌, ◌++◌, if◌then◌else◌}
use Rattle.std.specs.List.{list_any, position_or_len}
use Rattle.std.specs.Str.{bytes_eq}

-- the number of a text: its place among the texts so far, or the next one where it is new
abbrev pub symbol_of : List (List ℕ) → List ℕ → ℕ
symbol_of texts text = position_or_len (bytes_eq text) texts

-- the texts so far, once a text was seen
abbrev pub with_text : List (List ℕ) → List ℕ → List (List ℕ)
with_text texts text = if list_any (bytes_eq text) texts then texts else texts ++ text ∷ []
