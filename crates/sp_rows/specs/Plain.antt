-- Rows that are cut at their commas.
use Rattle.std.specs.Prelude.{◌≡◌, ℕ, ◌+◌, ◌-◌, Bool, false, List, [], ◌∷◌, take, drop, ◌==◌, ◌||◌, if◌then◌else◌}
use Rattle.std.specs.List.{All, slice_split}

-- a quote and the bytes of a line's end
abbrev pub is_break : ℕ → Bool
is_break b = (b == 34) || (b == 13) || (b == 10)

-- bytes of which none is a quote or a line's end
abbrev pub HasNoBreak : List ℕ → Type 0
HasNoBreak bytes = All (λ b. is_break b ≡ false) bytes

-- the parts between the commas
abbrev pub cut : List ℕ → List (List ℕ)
cut bytes = slice_split (λ b. b == 44) bytes

-- in bytes that stand from a place on: the place behind each comma, and the last one as if a comma stood at the end
abbrev pub nexts_from : ℕ → List ℕ → List ℕ
nexts_from place [] = (place + 1) ∷ []
nexts_from place (b ∷ bs) = if b == 44 then (place + 1) ∷ nexts_from (place + 1) bs else nexts_from (place + 1) bs

-- the bytes of a row from a place up to the comma before the next cell's
abbrev pub piece : List ℕ → ℕ → ℕ → List ℕ
piece row start next = take (next - 1 - start) (drop start row)

-- the cells of a row from a place on, where the next ones begin at these places
abbrev pub pieces : List ℕ → ℕ → List ℕ → List (List ℕ)
pieces row start [] = []
pieces row start (next ∷ nexts) = piece row start next ∷ pieces row next nexts
