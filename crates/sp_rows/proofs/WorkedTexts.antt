-- The numbers of texts, tried by computation on the cells of a few rows: the query has the text b.
use Rattle.std.proofs.Common.{◌≡◌, List, [], ◌∷◌, refl}
use Rattle.std.specs.Prelude.{ℕ, codes, pos, None}
use Rattle.std.specs.List.{fold}
use Rattle.sp_plan.specs.Texts.{with_text}
use Rattle.sp_plan.specs.declared.event.Value.{Value}
use Rattle.sp_plan.specs.declared.event.Value.TheVariants.{Symbol}
use Rattle.sp_rows.specs.Progress.{with_texts_below}
use Rattle.sp_rows.specs.Rows.{RowsRead, Cell, number, text, with_cell}

abbrev seen : List Cell → List Value × List (List ℕ)
seen cells = fold with_cell ([], fold with_text [] (codes "b" ∷ [])) cells

-- a text that is seen twice has one number, and the query's has the first
twice : (seen (text (codes "a") ∷ text (codes "b") ∷ text (codes "a") ∷ [])).0 ≡ Symbol 1 ∷ Symbol 0 ∷ Symbol 1 ∷ []
twice = refl

both : (seen (text (codes "a") ∷ text (codes "b") ∷ text (codes "a") ∷ [])).1 ≡ codes "b" ∷ codes "a" ∷ []
both = refl

-- numbers are no texts
number_is_none : (seen (number (pos 7) ∷ text (codes "7") ∷ [])).1 ≡ codes "b" ∷ codes "7" ∷ []
number_is_none = refl

-- a beginning of a text is another text
beginning : (seen (text (codes "bb") ∷ text (codes "") ∷ [])).0 ≡ Symbol 1 ∷ Symbol 2 ∷ []
beginning = refl

abbrev reading : RowsRead
reading = record { places = None; read = 3; last = pos 0; texts = codes "b" ∷ codes "a" ∷ codes "c" ∷ [] }

-- those from a number on are forgotten, and none where there is none
forgotten : (with_texts_below 1 reading).texts ≡ codes "b" ∷ []
forgotten = refl

none_forgotten : (with_texts_below 5 reading).texts ≡ reading.texts
none_forgotten = refl
