-- Rows without a quote and without a line's end: their cells stand between the commas.
use Rattle.std.proofs.Common.{◌≡◌, ◌≢◌, inl, inr, ℕ, true, false, eqb, List, [], ◌∷◌, ◌++◌, Some, refl, ◌∙◌, ap, sym, append_assoc, append-nil, ◌<◌, length, take, eqb-true, true≢false, arith}
use Rattle.std.specs.Prelude.{if◌then◌else◌, ◌||◌, ◌&&◌}
use Rattle.std.specs.List.{onto_first}
use Rattle.std.proofs.lemmas.Bool.{cases_Bool, or_parts, and_parts}
use Rattle.std.proofs.lemmas.List.Elements.{All-head, All-tail}
use Rattle.std.proofs.lemmas.List.Splits.{slice_split-cons_yes, slice_split-cons_no, length-slice_split}
use Rattle.std.proofs.lemmas.Slice.Eq.{bytes_eq-Decides}
use Rattle.csv.specs.Machine.{next_record, step, is_end, fields_after, field_after}
use Rattle.csv.specs.Reading.{default_config, strip_bom, is_bom}
use Rattle.csv.specs.declared.parser.State.{State}
use Rattle.csv.specs.declared.parser.State.TheVariants as st
use Rattle.csv.specs.declared.parser.Action.{Action}
use Rattle.csv.specs.declared.parser.Action.TheVariants as act
use Rattle.sp_base.specs.Marks.{is_mark}
use Rattle.sp_rows.specs.Cells.{after_first, one, without_marks, row_cells}
use Rattle.sp_rows.specs.Plain.{is_break, HasNoBreak, cut}

-- a byte that joins the field at hand
copies : (s t : State) (fields : List (List ℕ)) (field : List ℕ) (c : ℕ) (rest : List ℕ) → step default_config s c ≡ (t, act.Copy)
    → next_record default_config s fields field (c ∷ rest) ≡ next_record default_config t fields (field ++ c ∷ []) rest
unfolding next_record
copies s t fields field c rest e =
    ap (λ (p : State × Action). if is_end p.1 then Some (fields_after p.1 fields field, p.0, rest) else next_record default_config p.0 (fields_after p.1 fields field) (field_after p.1 c field) rest) e

-- a byte that ends the field at hand
ends : (s t : State) (fields : List (List ℕ)) (field : List ℕ) (c : ℕ) (rest : List ℕ) → step default_config s c ≡ (t, act.EndField)
    → next_record default_config s fields field (c ∷ rest) ≡ next_record default_config t (fields ++ field ∷ []) [] rest
unfolding next_record
ends s t fields field c rest e =
    ap (λ (p : State × Action). if is_end p.1 then Some (fields_after p.1 fields field, p.0, rest) else next_record default_config p.0 (fields_after p.1 fields field) (field_after p.1 c field) rest) e

-- a byte that is no quote and no line's end
differs : (c : ℕ) → is_break c ≡ false → (eqb c 34 ≡ false) × (eqb c 13 ≡ false) × (eqb c 10 ≡ false)
differs c none =
    let last = or_parts (eqb c 34 || eqb c 13) (eqb c 10) none in
    let first = or_parts (eqb c 34) (eqb c 13) last.0 in
    (first.0, first.1, last.1)

-- the states in which bytes without quotes are read
data Plain : Type 0 where
  at_record : Plain
  at_field : Plain
  within : Plain

abbrev state_of : Plain → State
state_of at_record = st.StartRecord
state_of at_field = st.StartField
state_of within = st.InField

-- a comma in these states
at_comma : (s : Plain) (c : ℕ) → is_break c ≡ false → eqb c 44 ≡ true → step default_config (state_of s) c ≡ (st.StartField, act.EndField)
at_comma at_record c none comma = let d = differs c none in rw (comma, d.0, d.1, d.2) refl
at_comma at_field c none comma = let d = differs c none in rw (comma, d.0) refl
at_comma within c none comma = rw comma refl

-- any other byte in these states
at_other : (s : Plain) (c : ℕ) → is_break c ≡ false → eqb c 44 ≡ false → step default_config (state_of s) c ≡ (st.InField, act.Copy)
at_other at_record c none other = let d = differs c none in rw (other, d.0, d.1, d.2) refl
at_other at_field c none other = let d = differs c none in rw (other, d.0, d.1, d.2) refl
at_other within c none other = let d = differs c none in rw (other, d.1, d.2) refl

-- the fields so far and the field so far, which the first of these parts ends
abbrev pub with_parts : List (List ℕ) → List ℕ → List (List ℕ) → List (List ℕ)
with_parts fields field [] = fields ++ field ∷ []
with_parts fields field (part ∷ parts) = fields ++ (field ++ part) ∷ parts

-- a byte before the first part joins the field so far
pub joins : (fields : List (List ℕ)) (field : List ℕ) (c : ℕ) (parts : List (List ℕ)) → with_parts fields (field ++ c ∷ []) parts ≡ with_parts fields field (onto_first c parts)
joins fields field c [] = refl
joins fields field c (part ∷ parts) = ap (λ (l : List ℕ). fields ++ l ∷ parts) (append_assoc field (c ∷ []) part)

-- there is a part at least
pub some_part : (bytes : List ℕ) → 0 < length (cut bytes)
some_part bytes = omega (arith, length-slice_split (λ b. eqb b 44) bytes)

-- a comma ends the field so far
closes : (fields : List (List ℕ)) (field : List ℕ) (parts : List (List ℕ)) → 0 < length parts → with_parts (fields ++ field ∷ []) [] parts ≡ with_parts fields field ([] ∷ parts)
closes fields field [] some = absurd (omega arith)
closes fields field (part ∷ parts) some = append_assoc fields (field ∷ []) (part ∷ parts) ∙ ap (λ (l : List ℕ). fields ++ l ∷ part ∷ parts) (sym (append-nil field))

-- the bytes are read to their end, with these fields
abbrev Gives : State → List (List ℕ) → List ℕ → List ℕ → Type 0
Gives s fields field bytes = next_record default_config s fields field bytes ≡ Some (with_parts fields field (cut bytes), st.StartRecord, [])

-- from one byte to the next
one_byte : (s : Plain) (fields : List (List ℕ)) (field : List ℕ) (c : ℕ) (bytes : List ℕ) → is_break c ≡ false
    → Gives st.StartField (fields ++ field ∷ []) [] bytes → Gives st.InField fields (field ++ c ∷ []) bytes → Gives (state_of s) fields field (c ∷ bytes)
one_byte s fields field c bytes none next_field same_field = elim (cases_Bool (eqb c 44)) [
  | inl comma ↦
      ends (state_of s) st.StartField fields field c bytes (at_comma s c none comma)
      ∙ next_field
      ∙ ap (λ (l : List (List ℕ)). Some (l, st.StartRecord, [])) (closes fields field (cut bytes) (some_part bytes) ∙ ap (with_parts fields field) (sym (slice_split-cons_yes (λ b. eqb b 44) c bytes comma)))
  | inr other ↦
      copies (state_of s) st.InField fields field c bytes (at_other s c none other)
      ∙ same_field
      ∙ ap (λ (l : List (List ℕ)). Some (l, st.StartRecord, [])) (joins fields field c (cut bytes) ∙ ap (with_parts fields field) (sym (slice_split-cons_no (λ b. eqb b 44) c bytes other)))
]

-- the end of the bytes ends the field so far
at_end : (fields : List (List ℕ)) (field : List ℕ) → Gives st.StartField fields field [] × Gives st.InField fields field []
unfolding next_record
at_end fields field =
    let same = ap (λ (l : List ℕ). Some (fields ++ l ∷ [], st.StartRecord, [])) (sym (append-nil field)) in
    (same, same)

-- what is read from the start of a field and within one
from_field : (bytes : List ℕ) (fields : List (List ℕ)) (field : List ℕ) → HasNoBreak bytes → Gives st.StartField fields field bytes × Gives st.InField fields field bytes
from_field [] fields field none = at_end fields field
from_field (c ∷ bytes) fields field none =
    let first = All-head (λ b. is_break b ≡ false) c bytes none in
    let rest = All-tail (λ b. is_break b ≡ false) c bytes none in
    let next_field = (from_field bytes (fields ++ field ∷ []) [] rest).0 in
    let same_field = (from_field bytes fields (field ++ c ∷ []) rest).1 in
    (one_byte at_field fields field c bytes first next_field same_field, one_byte within fields field c bytes first next_field same_field)

-- the parts as they are
pub whole_parts : (parts : List (List ℕ)) → 0 < length parts → with_parts [] [] parts ≡ parts
whole_parts [] some = absurd (omega arith)
whole_parts (part ∷ parts) some = refl

-- a record of bytes, of which there is one at least
from_record : (bytes : List ℕ) → bytes ≢ [] → HasNoBreak bytes → next_record default_config st.StartRecord [] [] bytes ≡ Some (cut bytes, st.StartRecord, [])
from_record [] some none = absurd (some refl)
from_record (c ∷ bytes) some none =
    let first = All-head (λ b. is_break b ≡ false) c bytes none in
    let rest = All-tail (λ b. is_break b ≡ false) c bytes none in
    one_byte at_record [] [] c bytes first (from_field bytes ([] ∷ []) [] rest).0 (from_field bytes [] (c ∷ []) rest).1
    ∙ ap (λ (l : List (List ℕ)). Some (l, st.StartRecord, [])) (whole_parts (cut (c ∷ bytes)) (some_part (c ∷ bytes)))

-- no record is behind the end
no_more : (cells : List (List ℕ)) → after_first (Some (cells, st.StartRecord, [])) ≡ one cells
unfolding next_record
no_more cells = refl

-- the three bytes that the crate csv drops are a byte order mark
marked : (a b c : ℕ) → is_bom a b c ≡ true → is_mark (a ∷ b ∷ c ∷ []) ≡ true
marked a b c mark =
    let last = and_parts (eqb a 239 && eqb b 187) (eqb c 191) mark in
    let first = and_parts (eqb a 239) (eqb b 187) last.0 in
    let same : a ∷ b ∷ c ∷ [] ≡ 239 ∷ 187 ∷ 191 ∷ [] = (λ i. eqb-true a 239 first.0 i ∷ eqb-true b 187 first.1 i ∷ eqb-true c 191 last.1 i ∷ []) in
    (bytes_eq-Decides (a ∷ b ∷ c ∷ []) (239 ∷ 187 ∷ 191 ∷ [])).1 same

-- bytes without a byte order mark stay whole
pub unmarked : (bytes : List ℕ) → is_mark (take 3 bytes) ≡ false → strip_bom bytes ≡ bytes
unfolding strip_bom
unmarked [] other = refl
unmarked (a ∷ []) other = refl
unmarked (a ∷ b ∷ []) other = refl
unmarked (a ∷ b ∷ c ∷ rest) other = elim (cases_Bool (is_bom a b c)) [
  | inl mark ↦ absurd (true≢false (sym (marked a b c mark) ∙ other))
  | inr none ↦ rw none refl
]

-- the cells of bytes without quotes and line's ends
pub plain_cells : (bytes : List ℕ) → bytes ≢ [] → HasNoBreak bytes → is_mark (take 3 bytes) ≡ false → after_first (next_record default_config st.StartRecord [] [] (strip_bom bytes)) ≡ one (cut bytes)
plain_cells bytes some none other =
    ap (λ (l : List ℕ). after_first (next_record default_config st.StartRecord [] [] l)) (unmarked bytes other)
    ∙ ap after_first (from_record bytes some none)
    ∙ no_more (cut bytes)

-- the cells of a row without quotes and line's ends behind its byte order marks
pub plain_row : (row rest : List ℕ) → rest ≡ without_marks row → rest ≢ [] → HasNoBreak rest → is_mark (take 3 rest) ≡ false → one (cut rest) ≡ row_cells row
plain_row row rest is some none other =
    sym (plain_cells rest some none other) ∙ ap (λ (l : List ℕ). after_first (next_record default_config st.StartRecord [] [] (strip_bom l))) is
