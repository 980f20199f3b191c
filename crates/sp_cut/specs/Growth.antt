-- Laws of the rows of a growing input.
use Rattle.std.specs.Prelude.{ℕ, ◌≡◌, Bool, true, false, List, [], ◌∷◌, ◌++◌, length, map}
use Rattle.sp_cut.specs.CutRows.{CutRow, row, rows}
use Rattle.sp_cut.specs.Left.{Left, rows_left}
use Rattle.sp_cut.specs.Answer.{GivesRow, with_more}

-- rows that further ones follow
abbrev pub IsFirst : List CutRow → List CutRow → Type 0
IsFirst first whole = (further : List CutRow) × (whole ≡ first ++ further)

-- Before the input ended the rows left stay the first ones, whatever comes, and so does a fault of a row too long.
abbrev pub RowsStay : Type 0
RowsStay = (left : Left) (more : List ℕ) (ended : Bool) → left.ended ≡ false → IsFirst (rows_left left) (rows_left (with_more left more ended))

-- the rows given and those left are the rows of all bytes fed, and of these with all that may still come
pub record AddsUp (fed : List ℕ) (given : List (List ℕ)) (left : Left) : Type 0 where
  pub count : left.given ≡ length given
  pub cut : (taken : List ℕ) × (fed ≡ taken ++ left.bytes)
  pub whole : rows fed left.ended ≡ map row given ++ rows_left left
  pub coming : left.ended ≡ false → (more : List ℕ) (ended : Bool) → rows (fed ++ more) ended ≡ map row given ++ rows_left (with_more left more ended)

-- rows and bytes add up at the start, and each call of a cutter keeps it so
pub record RowsAddUp : Type 0 where
  pub begun : AddsUp [] [] (record { bytes = []; given = 0; ended = false })
  pub fed : (fed : List ℕ) (given : List (List ℕ)) (left : Left) (piece : List ℕ) → left.ended ≡ false → AddsUp fed given left → AddsUp (fed ++ piece) given (record left { bytes = left.bytes ++ piece })
  pub gave : (fed : List ℕ) (given : List (List ℕ)) (left new : Left) (bytes : List ℕ) → GivesRow left bytes new → AddsUp fed given left → AddsUp fed (given ++ bytes ∷ []) new
  pub over : (fed : List ℕ) (given : List (List ℕ)) (left : Left) → AddsUp fed given left → AddsUp fed given (record left { ended = true })
