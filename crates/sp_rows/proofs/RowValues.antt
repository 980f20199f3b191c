-- The values of a row, cell by cell, and the texts that they number.
use Rattle.std.proofs.Common.{◌≡◌, ℕ, ◌+◌, ◌≤◌, List, [], ◌∷◌, length, take, Some, sym, ◌∙◌, ap, map, fold, arith}
use Rattle.std.specs.List.{slice_get}
use Rattle.std.proofs.lemmas.List.{map-append, take-take, length-take}
use Rattle.std.proofs.lemmas.List.Sums.{fold-append}
use Rattle.sp_rows.specs.Rows.{Cell, ColumnAt, cell_in, with_cell, values_of}
use Rattle.sp_rows.proofs.Walks.{next_taken}

-- the values with those of one column more
pub one_more_value : (texts : List (List ℕ)) (cells : List (List ℕ)) (columns : List ColumnAt) (i : ℕ) (column : ColumnAt) → slice_get columns i ≡ Some column
    → values_of texts cells (take (i + 1) columns) ≡ with_cell (values_of texts cells (take i columns)) (cell_in cells column)
one_more_value texts cells columns i column is =
    ap (λ (l : List ColumnAt). values_of texts cells l) (next_taken columns i column is)
    ∙ ap (λ (l : List Cell). fold with_cell ([], texts) l) (map-append (cell_in cells) (take i columns) (column ∷ []))
    ∙ fold-append with_cell ([], texts) (map (cell_in cells) (take i columns)) (cell_in cells column ∷ [])

-- a list that begins with another begins with what that begins with
pub begins_still : {X : Type 0} (a b c : List X) → take (length a) b ≡ a → take (length b) c ≡ b → take (length a) c ≡ a
begins_still a b c first second =
    let long : length a ≤ length b = omega (arith, length-take (length a) b, ap (λ l. length l) first) in
    sym (take-take (length a) (length b) c long) ∙ ap (take (length a)) second ∙ first
