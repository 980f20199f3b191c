-- The mark that a table or a text may begin with.
use Rattle.std.specs.Prelude.{ℕ, Bool, List, [], ◌∷◌, take, drop, if◌then◌else◌}
use Rattle.std.specs.Str.{bytes_eq}

-- the three bytes of a byte order mark
abbrev pub is_mark : List ℕ → Bool
is_mark front = bytes_eq front (239 ∷ 187 ∷ 191 ∷ [])

-- the bytes without the byte order mark at their start
abbrev pub without_mark : List ℕ → List ℕ
without_mark bytes = if is_mark (take 3 bytes) then drop 3 bytes else bytes
