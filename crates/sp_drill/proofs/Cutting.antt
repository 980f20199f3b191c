-- Bytes of plain lines are cut at the ends of the lines.
use Rattle.std.proofs.Common.{◌≡◌, ◌≤◌, ◌-◌, ◌%◌, ℕ, zero, suc, true, false, eqb, List, [], ◌∷◌, ◌++◌, length, map, refl, ◌∙◌, ap, arith, append_assoc, append-nil}
use Rattle.std.specs.Prelude.{slice_get, nat_lt, codes, filter}
use Rattle.std.specs.List.{All, flat_map, onto_first}
use Rattle.std.proofs.lemmas.Bool.Decides.{nat_tests}
use Rattle.std.proofs.lemmas.List.Elements.{All-head, All-tail, filter-append}
use Rattle.sp_base.specs.Limits.{row_limit}
use Rattle.sp_cut.specs.CutRows.{CutRow, row, is_even, parts_after, is_cr, without_cr, ended_part, rows_of_parts}
use Rattle.sp_gen.specs.Plain.{IsPlainLine}

-- a byte of a plain line
abbrev IsPlain : ℕ → Type 0
IsPlain b = (44 ≤ b) × (b ≤ 122)

-- no quote is open behind one byte more that is no quote
still_even : (before : List ℕ) (b : ℕ) → is_even before ≡ true → eqb b 34 ≡ false → is_even (before ++ b ∷ []) ≡ true
still_even before b even other =
    let one : filter (λ b. eqb b 34) (b ∷ []) ≡ [] = rw other refl in
    let same : filter (λ b. eqb b 34) (before ++ b ∷ []) ≡ filter (λ b. eqb b 34) before =
    filter-append (λ b. eqb b 34) before (b ∷ []) ∙ ap (λ (l : List ℕ). filter (λ b. eqb b 34) before ++ l) one ∙ append-nil (filter (λ b. eqb b 34) before) in
    ap (λ (l : List ℕ). eqb (length l % 2) 0) same ∙ even

-- the parts of bytes, whatever stands before them without an open quote
abbrev Parts : List ℕ → List (List ℕ) → Type 0
Parts bytes parts = (before : List ℕ) → is_even before ≡ true → parts_after before bytes ≡ parts

-- a line and its end in front of other bytes
line_first : (line rest : List ℕ) (parts : List (List ℕ)) → All IsPlain line → Parts rest parts → Parts (line ++ 10 ∷ rest) (line ∷ parts)
line_first [] rest parts all behind before even =
    let after : is_even (before ++ 10 ∷ []) ≡ true = still_even before 10 even refl in
    rw even (ap (λ (l : List (List ℕ)). [] ∷ l) (behind (before ++ 10 ∷ []) after))
line_first (b ∷ line) rest parts all behind before even =
    let low : 44 ≤ b = (All-head IsPlain b line all).0 in
    let feed : eqb b 10 ≡ false = grind (arith, nat_tests, low) in
    let quote : eqb b 34 ≡ false = grind (arith, nat_tests, low) in
    let more = line_first line rest parts (All-tail IsPlain b line all) behind (before ++ b ∷ []) (still_even before b even quote) in
    rw feed (ap (onto_first b) more)

abbrev pub with_feed : List ℕ → List ℕ
with_feed line = line ++ codes "\n"

-- the parts of lines with their ends are the lines, and nothing behind
pub lines_parts : (lines : List (List ℕ)) → All IsPlainLine lines → Parts (flat_map with_feed lines) (lines ++ [] ∷ [])
lines_parts [] all before even = refl
lines_parts (line ∷ lines) all before even =
    let first = All-head IsPlainLine line lines all in
    let behind = lines_parts lines (All-tail IsPlainLine line lines all) in
    ap (parts_after before) (append_assoc line (codes "\n") (flat_map with_feed lines))
    ∙ line_first line (flat_map with_feed lines) (lines ++ [] ∷ []) first.bytes behind before even

-- ---- rows

-- no carriage return stands at a place of a plain line
no_return : (line : List ℕ) (i : ℕ) → All IsPlain line → is_cr (slice_get line i) ≡ false
no_return [] i all = refl
no_return (b ∷ line) zero all =
    let low : 44 ≤ b = (All-head IsPlain b line all).0 in
    grind (arith, nat_tests, low)
no_return (b ∷ line) (suc i) all = no_return line i (All-tail IsPlain b line all)

-- a plain line is a row
line_row : (line : List ℕ) → IsPlainLine line → ended_part line ≡ row line
line_row line plain =
    let whole : without_cr line ≡ line = rw (no_return line (length line - 1) plain.bytes) refl in
    let short : length line ≤ 26 = plain.short in
    let fits : nat_lt row_limit (length line) ≡ false = grind (arith, nat_tests, short) in
    rw (whole, fits) refl

-- lines, and nothing behind, are rows
pub lines_rows : (lines : List (List ℕ)) → All IsPlainLine lines → rows_of_parts true (lines ++ [] ∷ []) ≡ map row lines
lines_rows [] all = refl
lines_rows (line ∷ []) all = ap (λ (r : CutRow). r ∷ []) (line_row line (All-head IsPlainLine line [] all))
lines_rows (line ∷ next ∷ lines) all =
    λ i. line_row line (All-head IsPlainLine line (next ∷ lines) all) i ∷ lines_rows (next ∷ lines) (All-tail IsPlainLine line (next ∷ lines) all) i
