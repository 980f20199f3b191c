-- The rows left, by where the first of them ends.
use Rattle.std.proofs.Common.{◌≡◌, ℕ, ◌+◌, Bool, true, false, ◌&&◌, not, ◌==◌, List, [], ◌∷◌, ◌++◌, length, take, drop, refl, sym, ◌∙◌, ap, arith}
use Rattle.std.specs.Prelude.{if◌then◌else◌, Some}
use Rattle.std.specs.Cmp.Lexicographic.{same_text}
use Rattle.std.proofs.lemmas.Bool.Decides.{nat_tests}
use Rattle.std.proofs.lemmas.List.{take-append-drop, take_all}
use Rattle.sp_base.specs.Marks.{is_mark, without_mark}
use Rattle.sp_cut.specs.CutRows.{CutRow, is_even, rest_rows, ended_part, plain_rows, rows}
use Rattle.sp_cut.specs.Left.{Left, rows_left}
use Rattle.sp_cut.specs.Part.{part_of, left_behind}
use Rattle.sp_cut.specs.Scan.{scan, EndsAt}
use Rattle.sp_cut.proofs.Parts.{scan_even, row_ends, rest_is}

-- a mark in front of a line feed lies in the bytes before it
pub mark_before : (part more : List ℕ) → without_mark (part ++ 10 ∷ more) ≡ without_mark part ++ 10 ∷ more
mark_before [] more = refl
mark_before (a ∷ []) more = by (a == 239)
  where
    by : (m : Bool) → (if m && false then drop 1 more else a ∷ 10 ∷ more) ≡ (if m && false then [] else a ∷ []) ++ 10 ∷ more
    by true = refl
    by false = refl
mark_before (a ∷ b ∷ []) more = by (a == 239) (b == 187)
  where
    by : (m n : Bool) → (if m && (n && false) then more else a ∷ b ∷ 10 ∷ more) ≡ (if m && (n && false) then [] else a ∷ b ∷ []) ++ 10 ∷ more
    by true true = refl
    by true false = refl
    by false n = refl
mark_before (a ∷ b ∷ c ∷ rest) more = by (is_mark (a ∷ b ∷ c ∷ []))
  where
    by : (m : Bool) → (if m then rest ++ 10 ∷ more else a ∷ b ∷ c ∷ (rest ++ 10 ∷ more)) ≡ (if m then rest else a ∷ b ∷ c ∷ rest) ++ 10 ∷ more
    by true = refl
    by false = refl

-- a mark has no line feed and no quote
pub mark_is_quiet : (bytes : List ℕ) (state : Bool) → scan false bytes ≡ Some state → scan false (without_mark bytes) ≡ Some state
mark_is_quiet bytes state is = by (is_mark (take 3 bytes)) refl
  where
    by : (m : Bool) → is_mark (take 3 bytes) ≡ m → scan false (if m then drop 3 bytes else bytes) ≡ Some state
    by true marked =
        let front : take 3 bytes ≡ 239 ∷ 187 ∷ 191 ∷ [] = same_text (take 3 bytes) (239 ∷ 187 ∷ 191 ∷ []) (sym marked) in
        let whole : bytes ≡ 239 ∷ 187 ∷ 191 ∷ drop 3 bytes = sym (take-append-drop 3 bytes) ∙ ap (λ (xs : List ℕ). xs ++ drop 3 bytes) front in
        let same : scan false bytes ≡ scan false (drop 3 bytes) = ap (scan false) whole in
        sym same ∙ is
    by false other = is

-- bytes with or without the mark at their start
abbrev pub fresh : Bool → List ℕ → List ℕ
fresh first bytes = if first then without_mark bytes else bytes

-- the rows left are those of the bytes left, at the start without their mark
rows_left_is : (left : Left) → rows_left left ≡ plain_rows (fresh (left.given == 0) left.bytes) left.ended
rows_left_is left = by (left.given == 0)
  where
    by : (first : Bool) → (if first then rows left.bytes left.ended else plain_rows left.bytes left.ended) ≡ plain_rows (fresh first left.bytes) left.ended
    by true = refl
    by false = refl

-- what comes behind a line feed has no part in the mark
fresh_before : (first : Bool) (part more : List ℕ) → fresh first (part ++ 10 ∷ more) ≡ fresh first part ++ 10 ∷ more
fresh_before true part more = mark_before part more
fresh_before false part more = refl

-- the bytes without the mark lead to the same state
fresh_state : (first : Bool) (bytes : List ℕ) (state : Bool) → scan false bytes ≡ Some state → scan false (fresh first bytes) ≡ Some state
fresh_state true bytes state is = mark_is_quiet bytes state is
fresh_state false bytes state is = is

-- once a row was given the mark is kept
pub left_behind_is : (left : Left) (taken : ℕ) → rows_left (left_behind left taken) ≡ plain_rows (drop taken left.bytes) left.ended
left_behind_is left taken =
    let later : ((left.given + 1) == 0) ≡ false = grind (arith, nat_tests) in
    ap (λ (first : Bool). if first then rows (drop taken left.bytes) left.ended else plain_rows (drop taken left.bytes) left.ended) later

-- the first row left ends at the first line feed that ends one
pub first_left : (left : Left) (size : ℕ) → EndsAt false left.bytes size → rows_left left ≡ ended_part (part_of left size) ∷ rows_left (left_behind left (size + 1))
first_left left size ends =
    let first = left.given == 0 in
    let part = take size left.bytes in
    let more = drop (size + 1) left.bytes in
    rows_left_is left
    ∙ ap (λ (bytes : List ℕ). plain_rows (fresh first bytes) left.ended) ends.whole
    ∙ ap (λ (bytes : List ℕ). plain_rows bytes left.ended) (fresh_before first part more)
    ∙ row_ends (fresh first part) more left.ended (fresh_state first part false ends.before)
    ∙ ap (λ (rows : List CutRow). ended_part (fresh first part) ∷ rows) (sym (left_behind_is left (size + 1)))

-- the rest is all the bytes left, where no row ends among them
pub rest_left : (left : Left) (state : Bool) → scan false left.bytes ≡ Some state → rows_left left ≡ rest_rows left.ended (part_of left (length left.bytes))
rest_left left state is =
    let first = left.given == 0 in
    rows_left_is left
    ∙ rest_is (fresh first left.bytes) left.ended state (fresh_state first left.bytes state is)
    ∙ ap (λ (bytes : List ℕ). rest_rows left.ended (fresh first bytes)) (sym (take_all (length left.bytes) left.bytes (omega arith)))

-- whether a quote is open at the end of the rest
pub rest_even : (left : Left) (state : Bool) → scan false left.bytes ≡ Some state → is_even (part_of left (length left.bytes)) ≡ not state
rest_even left state is =
    let first = left.given == 0 in
    ap (λ (bytes : List ℕ). is_even (fresh first bytes)) (take_all (length left.bytes) left.bytes (omega arith))
    ∙ scan_even (fresh first left.bytes) state (fresh_state first left.bytes state is)
