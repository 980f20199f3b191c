-- A row cut at its commas, by the places behind them.
use Rattle.std.proofs.Common.{◌≡◌, inl, inr, ℕ, zero, suc, ◌+◌, ◌-◌, ◌≤◌, Bool, true, false, eqb, List, [], ◌∷◌, ◌++◌, length, get_or, take, drop, Some, None, refl, sym, ◌∙◌, ap, append_assoc, append-nil, length-append, arith}
use Rattle.std.specs.Prelude.{if◌then◌else◌, ◌==◌}
use Rattle.std.specs.List.{slice_get}
use Rattle.std.proofs.lemmas.Bool.{cases_Bool}
use Rattle.std.proofs.lemmas.Option.{slice_get_past}
use Rattle.std.proofs.Math.Seq.{drop-append_seam, take-append_seam, drop-length}
use Rattle.sp_rows.specs.Plain.{cut, nexts_from, piece, pieces}
use Rattle.sp_rows.proofs.PlainRows.{with_parts, joins, some_part, whole_parts}

-- there are as many pieces as places
pub pieces_count : (row : List ℕ) (start : ℕ) (nexts : List ℕ) → length (pieces row start nexts) ≡ length nexts
pieces_count row start [] = refl
pieces_count row start (next ∷ nexts) = ap suc (pieces_count row next nexts)

-- the piece at a place
pub piece_there : (row : List ℕ) (start : ℕ) (nexts : List ℕ) (i next : ℕ) → slice_get nexts i ≡ Some next → slice_get (pieces row start nexts) i ≡ Some (piece row (get_or (start ∷ nexts) i 0) next)
piece_there row start [] i next is = absurd (cc is)
piece_there row start (n ∷ nexts) zero next is = let same : n ≡ next = cc in ap (λ (m : ℕ). Some (piece row start m)) same
piece_there row start (n ∷ nexts) (suc i) next is = piece_there row n nexts i next is

-- there is no piece past the last place
pub piece_past : (row : List ℕ) (start : ℕ) (nexts : List ℕ) (i : ℕ) → length nexts ≤ i → slice_get (pieces row start nexts) i ≡ None
piece_past row start nexts i past = slice_get_past (pieces row start nexts) i (omega (arith, pieces_count row start nexts))

-- the place behind a comma comes before those that follow
choice : (b : Bool) (nexts : List ℕ) (next : ℕ) (rest : List ℕ) → (if b then nexts ++ next ∷ [] else nexts) ++ rest ≡ nexts ++ (if b then next ∷ rest else rest)
choice true nexts next rest = append_assoc nexts (next ∷ []) rest
choice false nexts next rest = refl

-- one byte more
pub one_more_byte : (nexts more all rest bytes : List ℕ) (place b : ℕ) → more ≡ (if b == 44 then nexts ++ (place + 1) ∷ [] else nexts) → rest ≡ b ∷ bytes → nexts ++ nexts_from place rest ≡ all
    → more ++ nexts_from (place + 1) bytes ≡ all
one_more_byte nexts more all rest bytes place b noted is so_far =
    ap (λ (l : List ℕ). l ++ nexts_from (place + 1) bytes) noted
    ∙ choice (b == 44) nexts (place + 1) (nexts_from (place + 1) bytes)
    ∙ ap (λ (l : List ℕ). nexts ++ nexts_from place l) (sym is)
    ∙ so_far

-- the place behind the last byte
pub last_place : (row nexts more all : List ℕ) (place : ℕ) → length row ≤ place → place ≤ length row → more ≡ nexts ++ (length row + 1) ∷ [] → nexts ++ nexts_from place (drop place row) ≡ all → more ≡ all
last_place row nexts more all place past within noted so_far =
    let at : place ≡ length row = omega arith in
    noted
    ∙ ap (λ (l : List ℕ). nexts ++ nexts_from (length row) l) (sym (drop-length row))
    ∙ ap (λ (p : ℕ). nexts ++ nexts_from p (drop p row)) (sym at)
    ∙ so_far

-- the bytes between two places
middle : (row front mid rest : List ℕ) (start next : ℕ) → row ≡ front ++ (mid ++ rest) → start ≡ length front → next ≡ start + length mid + 1 → piece row start next ≡ mid
middle row front mid rest start next is from to =
    let count : next - 1 - start ≡ length mid = omega arith in
    ap (λ (n : ℕ). take n (drop start row)) count
    ∙ ap (λ (n : ℕ). take (length mid) (drop n row)) from
    ∙ ap (λ (l : List ℕ). take (length mid) (drop (length front) l)) is
    ∙ ap (take (length mid)) (drop-append_seam front (mid ++ rest))
    ∙ take-append_seam mid rest

-- the pieces from a place on, of which the first has some bytes already
pieces_from : (row front mid bytes : List ℕ) (start at : ℕ) → row ≡ front ++ (mid ++ bytes) → start ≡ length front → at ≡ start + length mid
    → pieces row start (nexts_from at bytes) ≡ with_parts [] mid (cut bytes)
pieces_from row front mid [] start at is from to =
    ap (λ (l : List ℕ). l ∷ []) (middle row front mid [] start (at + 1) is from (omega arith) ∙ sym (append-nil mid))
pieces_from row front mid (b ∷ bytes) start at is from to = elim (cases_Bool (eqb b 44)) [
  | inl comma ↦ rw comma (
      let rest_is : row ≡ (front ++ (mid ++ b ∷ [])) ++ bytes = is ∙ ap (λ (l : List ℕ). front ++ l) (sym (append_assoc mid (b ∷ []) bytes)) ∙ sym (append_assoc front (mid ++ b ∷ []) bytes) in
      let long : at + 1 ≡ length (front ++ (mid ++ b ∷ [])) = omega (arith, length-append front (mid ++ b ∷ []), length-append mid (b ∷ [])) in
      let rest = pieces_from row (front ++ (mid ++ b ∷ [])) [] bytes (at + 1) (at + 1) rest_is long (omega arith) ∙ whole_parts (cut bytes) (some_part bytes) in
      let first = middle row front mid (b ∷ bytes) start (at + 1) is from (omega arith) ∙ sym (append-nil mid) in
      λ i. first i ∷ rest i)
  | inr other ↦ rw other (
      let rest_is : row ≡ front ++ ((mid ++ b ∷ []) ++ bytes) = is ∙ ap (λ (l : List ℕ). front ++ l) (sym (append_assoc mid (b ∷ []) bytes)) in
      pieces_from row front (mid ++ b ∷ []) bytes start (at + 1) rest_is from (omega (arith, length-append mid (b ∷ []))) ∙ joins [] mid b (cut bytes))
]

-- the pieces of a row are its parts between the commas
pub cut_pieces : (row : List ℕ) → pieces row 0 (nexts_from 0 row) ≡ cut row
cut_pieces row = pieces_from row [] [] row 0 0 refl refl refl ∙ whole_parts (cut row) (some_part row)
