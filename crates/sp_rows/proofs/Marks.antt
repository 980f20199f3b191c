-- Byte order marks at the start of bytes.
use Rattle.std.proofs.Common.{◌≡◌, inl, inr, ℕ, zero, suc, ◌≤◌, true, false, List, [], ◌∷◌, length, take, drop, refl, ◌∙◌, ap, arith, length-drop}
use Rattle.std.proofs.lemmas.List.{length-take}
use Rattle.std.proofs.lemmas.Slice.Eq.{bytes_eq-Decides}
use Rattle.std.proofs.lemmas.Bool.{cases_Bool}
use Rattle.csv.specs.Machine.{next_record}
use Rattle.csv.specs.Reading.{strip_bom}
use Rattle.sp_base.specs.Marks.{is_mark}
use Rattle.sp_rows.specs.Cells.{without_some, without_marks, row_cells, blank}

-- bytes that begin with a mark are three or more
pub mark_long : (bytes : List ℕ) → is_mark (take 3 bytes) ≡ true → 3 ≤ length bytes
mark_long bytes is =
    let same : take 3 bytes ≡ 239 ∷ 187 ∷ 191 ∷ [] = (bytes_eq-Decides (take 3 bytes) (239 ∷ 187 ∷ 191 ∷ [])).0 is in
    omega (arith, length-take 3 bytes, ap (λ (l : List ℕ). length l) same)

-- so many marks as bytes are enough
enough_marks : (n m : ℕ) (bytes : List ℕ) → length bytes ≤ n → length bytes ≤ m → without_some n bytes ≡ without_some m bytes
enough_marks zero zero bytes low high = refl
enough_marks zero (suc m) [] low high = refl
enough_marks (suc n) zero [] low high = refl
enough_marks zero (suc m) (b ∷ bytes) low high = absurd (omega arith)
enough_marks (suc n) zero (b ∷ bytes) low high = absurd (omega arith)
enough_marks (suc n) (suc m) bytes low high = elim (cases_Bool (is_mark (take 3 bytes))) [
  | inl marked ↦
      let long : 3 ≤ length bytes = mark_long bytes marked in
      rw marked (enough_marks n m (drop 3 bytes) (omega (arith, length-drop 3 bytes)) (omega (arith, length-drop 3 bytes)))
  | inr other ↦ rw other refl
]

-- a byte more is enough for one mark more
first_mark : (n : ℕ) (bytes : List ℕ) → is_mark (take 3 bytes) ≡ true → without_some n (drop 3 bytes) ≡ without_some (suc n) bytes
first_mark n bytes marked = rw marked refl

-- bytes behind a mark
pub behind_mark : (bytes : List ℕ) → is_mark (take 3 bytes) ≡ true → without_marks (drop 3 bytes) ≡ without_marks bytes
behind_mark [] marked = refl
behind_mark (b ∷ bs) marked =
    enough_marks (length (drop 3 (b ∷ bs))) (length bs) (drop 3 (b ∷ bs)) (omega arith) (omega (arith, length-drop 3 (b ∷ bs)))
    ∙ first_mark (length bs) (b ∷ bs) marked

-- bytes that don't begin with a mark
pub no_mark : (bytes : List ℕ) → is_mark (take 3 bytes) ≡ false → bytes ≡ without_marks bytes
no_mark bytes other = by (length bytes)
  where
    by : (n : ℕ) → bytes ≡ without_some n bytes
    by zero = refl
    by (suc n) = rw other refl

-- a row of no byte is blank
pub no_bytes : row_cells [] ≡ blank
unfolding next_record strip_bom
no_bytes = refl
