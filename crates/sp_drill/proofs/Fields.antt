-- The cells of a row of words with commas between them.
use Rattle.std.proofs.Common.{◌≡◌, ◌<◌, ◌≤◌, ℕ, zero, suc, false, eqb, List, [], ◌∷◌, ◌++◌, length, Some, refl, sym, ◌∙◌, ap, arith, append_assoc, append-nil}
use Rattle.std.specs.Prelude.{Option, if◌then◌else◌}
use Rattle.std.specs.List.{All}
use Rattle.std.proofs.lemmas.Bool.Decides.{nat_tests}
use Rattle.std.proofs.lemmas.List.Elements.{All-head, All-tail}
use Rattle.csv.specs.Machine.{next_record, step, is_end, fields_after, field_after, Read}
use Rattle.csv.specs.Reading.{default_config, strip_bom}
use Rattle.csv.specs.declared.parser.State.{State}
use Rattle.csv.specs.declared.parser.State.TheVariants as st
use Rattle.csv.specs.declared.parser.Action.{Action}
use Rattle.csv.specs.declared.parser.Action.TheVariants as act
use Rattle.sp_rows.specs.Cells.{after_first, one, without_some, without_marks, row_cells}

-- a byte of a word: no comma, no quote and no end of a line
abbrev pub IsOfWord : ℕ → Type 0
IsOfWord b = (45 ≤ b) × (b ≤ 122)

abbrev pub IsWord : List ℕ → Type 0
IsWord word = All IsOfWord word

-- a reading of bytes from a state, with the cells and the cell so far
abbrev from : State → List (List ℕ) → List ℕ → List ℕ → Option Read
from s cells cell bytes = next_record default_config s cells cell bytes

-- a byte by what the machine does at it
by_step : (s t : State) (does : Action) (cells : List (List ℕ)) (cell : List ℕ) (b : ℕ) (rest : List ℕ) → step default_config s b ≡ (t, does) → is_end does ≡ false
    → from s cells cell (b ∷ rest) ≡ from t (fields_after does cells cell) (field_after does b cell) rest
unfolding next_record
by_step s t does cells cell b rest e goes_on =
    ap (λ (p : State × Action). if is_end p.1 then Some (fields_after p.1 cells cell, p.0, rest) else next_record default_config p.0 (fields_after p.1 cells cell) (field_after p.1 b cell) rest) e
    ∙ rw goes_on refl

-- the states in which a word is read
data Place : Type 0 where
  at_record : Place
  at_cell : Place
  within : Place

abbrev state_of : Place → State
state_of at_record = st.StartRecord
state_of at_cell = st.StartField
state_of within = st.InField

-- a byte of a word is copied
copied : (place : Place) (b : ℕ) → IsOfWord b → step default_config (state_of place) b ≡ (st.InField, act.Copy)
copied place b (low, high) =
    let comma : eqb b 44 ≡ false = grind (arith, nat_tests, low) in
    let quote : eqb b 34 ≡ false = grind (arith, nat_tests, low) in
    let return : eqb b 13 ≡ false = grind (arith, nat_tests, low) in
    let feed : eqb b 10 ≡ false = grind (arith, nat_tests, low) in
    by place comma quote return feed
  where
    by : (place : Place) → eqb b 44 ≡ false → eqb b 34 ≡ false → eqb b 13 ≡ false → eqb b 10 ≡ false → step default_config (state_of place) b ≡ (st.InField, act.Copy)
    by at_record comma quote return feed = rw (comma, quote, return, feed) refl
    by at_cell comma quote return feed = rw (comma, quote, return, feed) refl
    by within comma quote return feed = rw (comma, return, feed) refl

-- a word joins the cell so far
joined : (cells : List (List ℕ)) (cell word rest : List ℕ) → IsWord word → from st.InField cells cell (word ++ rest) ≡ from st.InField cells (cell ++ word) rest
joined cells cell [] rest all = ap (λ (l : List ℕ). from st.InField cells l rest) (sym (append-nil cell))
joined cells cell (b ∷ word) rest all =
    by_step st.InField st.InField act.Copy cells cell b (word ++ rest) (copied within b (All-head IsOfWord b word all)) refl
    ∙ joined cells (cell ++ b ∷ []) word rest (All-tail IsOfWord b word all)
    ∙ ap (λ (l : List ℕ). from st.InField cells l rest) (append_assoc cell (b ∷ []) word)

-- a word of one byte or more is the cell so far
begun : (place : Place) (cells : List (List ℕ)) (word rest : List ℕ) → IsWord word → 0 < length word → from (state_of place) cells [] (word ++ rest) ≡ from st.InField cells word rest
begun place cells [] rest all some = absurd (omega arith)
begun place cells (b ∷ word) rest all some =
    by_step (state_of place) st.InField act.Copy cells [] b (word ++ rest) (copied place b (All-head IsOfWord b word all)) refl
    ∙ joined cells (b ∷ []) word rest (All-tail IsOfWord b word all)

-- a comma behind a word ends the cell
before_comma : (place : Place) (cells : List (List ℕ)) (word rest : List ℕ) → IsWord word → 0 < length word → from (state_of place) cells [] (word ++ 44 ∷ rest) ≡ from st.StartField (cells ++ word ∷ []) [] rest
before_comma place cells word rest all some = begun place cells word (44 ∷ rest) all some ∙ by_step st.InField st.StartField act.EndField cells word 44 rest refl refl

-- the end ends it too
before_end : (cells : List (List ℕ)) (word : List ℕ) → IsWord word → 0 < length word → from st.StartField cells [] word ≡ Some (cells ++ word ∷ [], st.StartRecord, [])
unfolding next_record
before_end cells word all some =
    ap (from st.StartField cells []) (sym (append-nil word))
    ∙ begun at_cell cells word [] all some

-- a row of four words
abbrev pub four : List ℕ → List ℕ → List ℕ → List ℕ → List ℕ
four a b c d = a ++ 44 ∷ (b ++ 44 ∷ (c ++ 44 ∷ d))

-- the words of a row
pub record AreWords (a b c d : List ℕ) : Type 0 where
  pub words : IsWord a × IsWord b × IsWord c × IsWord d
  pub some : (0 < length a) × (0 < length b) × (0 < length c) × (0 < length d)

four_read : (a b c d : List ℕ) → AreWords a b c d → from st.StartRecord [] [] (four a b c d) ≡ Some (a ∷ b ∷ c ∷ d ∷ [], st.StartRecord, [])
four_read a b c d are =
    before_comma at_record [] a (b ++ 44 ∷ (c ++ 44 ∷ d)) are.words.0 are.some.0
    ∙ before_comma at_cell (a ∷ []) b (c ++ 44 ∷ d) are.words.1 are.some.1
    ∙ before_comma at_cell (a ∷ b ∷ []) c d are.words.2 are.some.2
    ∙ before_end (a ∷ b ∷ c ∷ []) d are.words.3 are.some.3

no_more : (cells : List (List ℕ)) → after_first (Some (cells, st.StartRecord, [])) ≡ one cells
unfolding next_record
no_more cells = refl

-- bytes that begin with another byte than a byte order mark does stay whole
marks_stay : (n b : ℕ) (rest : List ℕ) → eqb b 239 ≡ false → without_some n (b ∷ rest) ≡ b ∷ rest
marks_stay zero b rest other = refl
marks_stay (suc n) b rest other = rw other refl

mark_stays : (b : ℕ) (rest : List ℕ) → eqb b 239 ≡ false → strip_bom (b ∷ rest) ≡ b ∷ rest
unfolding strip_bom
mark_stays b [] other = refl
mark_stays b (c ∷ []) other = refl
mark_stays b (c ∷ d ∷ rest) other = rw other refl

unmarked : (word rest : List ℕ) → IsWord word → 0 < length word → strip_bom (without_marks (word ++ rest)) ≡ word ++ rest
unmarked [] rest all some = absurd (omega arith)
unmarked (b ∷ word) rest all some =
    let high : b ≤ 122 = (All-head IsOfWord b word all).1 in
    let other : eqb b 239 ≡ false = grind (arith, nat_tests, high) in
    ap strip_bom (marks_stay (length (b ∷ (word ++ rest))) b (word ++ rest) other) ∙ mark_stays b (word ++ rest) other

-- the cells of such a row are its words
pub four_cells : (a b c d : List ℕ) → AreWords a b c d → row_cells (four a b c d) ≡ one (a ∷ b ∷ c ∷ d ∷ [])
four_cells a b c d are =
    ap (λ (l : List ℕ). after_first (from st.StartRecord [] [] l)) (unmarked a (44 ∷ (b ++ 44 ∷ (c ++ 44 ∷ d))) are.words.0 are.some.0)
    ∙ ap after_first (four_read a b c d are)
    ∙ no_more (a ∷ b ∷ c ∷ d ∷ [])
