-- The definitions tried on worked bytes, by computation.
use Rattle.std.proofs.Common.{◌≡◌, ℕ, Bool, true, false, List, [], ◌∷◌, ◌++◌, refl}
use Rattle.std.specs.Prelude.{codes}
use Rattle.sp_cut.specs.CutRows.{row, open_quote, rows}
use Rattle.sp_cut.specs.Left.{rows_left}

-- the three bytes of a byte order mark
abbrev mark : List ℕ
mark = 239 ∷ 187 ∷ 191 ∷ []

-- no bytes are no row, ended or not
nothing : (ended : Bool) → rows [] ended ≡ []
nothing true = refl
nothing false = refl

-- a line feed inside quotes ends no row
quoted_feed : rows (codes "a,\"b\nc\"\nd\n") false ≡ row (codes "a,\"b\nc\"") ∷ row (codes "d") ∷ []
quoted_feed = refl

-- two quotes inside quotes leave them open
two_quotes : rows (codes "\"\"\"\n\"\nd\n") true ≡ row (codes "\"\"\"\n\"") ∷ row (codes "d") ∷ []
two_quotes = refl

-- one carriage return before the line feed is no part of the row, and a second one is
returns_dropped : rows (codes "a\r\nb\r\r\nc\rd\n") false ≡ row (codes "a") ∷ row (codes "b\r") ∷ row (codes "c\rd") ∷ []
returns_dropped = refl

-- an empty row is a row
empty_rows : rows (codes "\n\r\na\n") true ≡ row [] ∷ row [] ∷ row (codes "a") ∷ []
empty_rows = refl

-- a mark at the start is dropped
mark_at_start : rows (mark ++ codes "a\n") false ≡ row (codes "a") ∷ []
mark_at_start = refl

-- a part of a mark is kept
part_of_mark : rows (239 ∷ 187 ∷ 10 ∷ 191 ∷ 10 ∷ []) true ≡ row (239 ∷ 187 ∷ []) ∷ row (191 ∷ []) ∷ []
part_of_mark = refl

-- only the first mark is dropped
two_marks : rows (mark ++ mark ++ codes "\n") true ≡ row mark ∷ []
two_marks = refl

-- a mark behind a row is kept
mark_later : rows_left (record { bytes = mark ++ codes "a\n"; given = 1; ended = false }) ≡ row (mark ++ codes "a") ∷ []
mark_later = refl

-- a mark alone is no row
mark_alone : rows mark true ≡ []
mark_alone = refl

-- a rest without a line feed is no row before the input ends
rest_waits : rows (codes "a\nb") false ≡ row (codes "a") ∷ []
rest_waits = refl

-- and one once it ended
rest_ended : rows (codes "a\nb") true ≡ row (codes "a") ∷ row (codes "b") ∷ []
rest_ended = refl

-- a quote that is open at the end
left_open : rows (codes "a\n\"b\nc") true ≡ row (codes "a") ∷ open_quote ∷ []
left_open = refl

-- it may still be closed
still_open : rows (codes "a\n\"b\nc") false ≡ row (codes "a") ∷ []
still_open = refl

-- a rest that is a carriage return alone is an empty row at the end
lone_return : rows (codes "a\n\r") true ≡ row (codes "a") ∷ row [] ∷ []
lone_return = refl
