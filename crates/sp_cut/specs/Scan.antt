-- Bytes gone through from the front, to the first line feed that ends a row.
use Rattle.std.specs.Prelude.{ℕ, ◌≡◌, Bool, false, ◌&&◌, not, ◌==◌, List, [], ◌∷◌, ◌++◌, length, ◌≤◌, ◌+◌, take, drop, Option, Some, None, if◌then◌else◌}

-- whether a quote is open behind this byte, where it was or wasn't before
abbrev pub quoted_behind : Bool → ℕ → Bool
quoted_behind quoted b = if b == 34 then not quoted else quoted

-- whether a quote is open behind these bytes, and None where a line feed among them ends a row
abbrev pub scan : Bool → List ℕ → Option Bool
scan quoted [] = Some quoted
scan quoted (b ∷ bs) = if b == 10 && not quoted then None else scan (quoted_behind quoted b) bs

-- the row of the first line feed that ends one has so many bytes before it
pub record EndsAt (quoted : Bool) (bytes : List ℕ) (size : ℕ) : Type 0 where
  pub before : scan quoted (take size bytes) ≡ Some false
  pub whole : bytes ≡ take size bytes ++ 10 ∷ drop (size + 1) bytes

-- so many bytes were gone through, and a quote is open behind them or not
pub record IsScanned (bytes : List ℕ) (size : ℕ) (quoted : Bool) : Type 0 where
  pub within : size ≤ length bytes
  pub state : scan false (take size bytes) ≡ Some quoted
