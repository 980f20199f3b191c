-- The rows of bytes, after RFC 4180 section 2: a line feed inside quotes ends no row.
use Rattle.std.specs.Prelude.{ℕ, ◌-◌, ◌%◌, Bool, false, ◌&&◌, ◌||◌, not, List, [], ◌∷◌, ◌++◌, length, take, Option, Some, None, slice_get, ◌==◌, nat_lt, filter, if◌then◌else◌}
use Rattle.std.specs.List.{onto_first}
use Rattle.sp_base.specs.Marks.{without_mark}
use Rattle.sp_base.specs.Limits.{row_limit}

-- how many quotes there are
abbrev pub quotes : List ℕ → ℕ
quotes bytes = length (filter (λ b. b == 34) bytes)

-- no quote is open behind these bytes
abbrev pub is_even : List ℕ → Bool
is_even bytes = quotes bytes % 2 == 0

-- The bytes cut at each line feed with an even number of quotes before it, in `before` and here together. The last part is the rest.
abbrev pub parts_after : List ℕ → List ℕ → List (List ℕ)
parts_after before [] = [] ∷ []
parts_after before (b ∷ bs) =
    if b == 10 && is_even before then [] ∷ parts_after (before ++ b ∷ []) bs else onto_first b (parts_after (before ++ b ∷ []) bs)

abbrev pub is_cr : Option ℕ → Bool
is_cr None = false
is_cr (Some b) = b == 13

-- a part without the carriage return at its end
abbrev pub without_cr : List ℕ → List ℕ
without_cr part = if is_cr (slice_get part (length part - 1)) then take (length part - 1) part else part

-- a part is too long for a row
abbrev pub is_long : List ℕ → Bool
is_long part = nat_lt row_limit (length (without_cr part))

-- a row, or why there is none in its place
pub data CutRow : Type 0 where
  row : List ℕ → CutRow
  long_row : CutRow
  open_quote : CutRow

-- a part that a line feed ends
abbrev pub ended_part : List ℕ → CutRow
ended_part part = if is_long part then long_row else row (without_cr part)

-- the rest counts as a row where it is too long for one, and where it isn't empty and the input ended
abbrev pub rest_rows : Bool → List ℕ → List CutRow
rest_rows ended rest =
    if is_long rest then long_row ∷ []
    else if not ended || length rest == 0 then []
    else if is_even rest then row (without_cr rest) ∷ []
    else open_quote ∷ []

abbrev pub rows_of_parts : Bool → List (List ℕ) → List CutRow
rows_of_parts ended [] = []
rows_of_parts ended (rest ∷ []) = rest_rows ended rest
rows_of_parts ended (part ∷ next ∷ parts) = ended_part part ∷ rows_of_parts ended (next ∷ parts)

-- the rows of bytes that no byte order mark begins
abbrev pub plain_rows : List ℕ → Bool → List CutRow
plain_rows bytes ended = rows_of_parts ended (parts_after [] bytes)

-- the rows of the whole input so far
abbrev pub rows : List ℕ → Bool → List CutRow
rows bytes ended = plain_rows (without_mark bytes) ended
