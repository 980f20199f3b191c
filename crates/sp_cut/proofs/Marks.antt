-- The next byte that matters, and those in front of it.
use Rattle.std.proofs.Common.{◌≡◌, ◌≢◌, ◌≤◌, ◌<◌, ◌+◌, ℕ, zero, suc, Bool, true, false, ◌==◌, ◌∷◌, ◌++◌, List, Option, None, length, take, drop, get_or, refl, sym, ◌∙◌, ap, arith, add-one, ⊎_elim, length-drop}
use Rattle.std.specs.Prelude.{if◌then◌else◌, Some, not}
use Rattle.std.proofs.lemmas.Bool.{cases_eq, eq-eqb, eqb-true}
use Rattle.std.proofs.lemmas.Bool.Decides.{nat_tests}
use Rattle.std.proofs.lemmas.List.{take_more, take_all, take-append-drop, drop_more, get_or-drop}
use Rattle.std.proofs.Math.Seq.{take-add}
use Rattle.memchr.specs.Find.{IsFirstByte, is_byte, is_byte2}
use Rattle.sp_cut.specs.Scan.{quoted_behind, scan, EndsAt}
use Rattle.sp_cut.specs.Ends.{IsMark, MarkAt}
use Rattle.sp_cut.proofs.Going.{scan_push}
use Rattle.sp_cut.proofs.Parts.{scan_more}

-- a byte that is no quote opens and closes none
still : (quoted : Bool) (b : ℕ) → b ≢ 34 → quoted_behind quoted b ≡ quoted
still quoted b other =
    let no : (b == 34) ≡ false = grind (arith, nat_tests) in
    ap (λ (quote : Bool). if quote then not quoted else quoted) no

-- behind bytes without a quote, and outside quotes without a line feed, all is as in front of them
pub stretch : (quoted : Bool) (bytes : List ℕ) (n : ℕ) → n ≤ length bytes → ((k : ℕ) → k < n → get_or bytes k 0 ≢ 34) → ((k : ℕ) → k < n → get_or bytes k 0 ≡ 10 → quoted ≡ true) → scan quoted (take n bytes) ≡ Some quoted
stretch quoted bytes zero le quote feed = refl
stretch quoted bytes (suc n) le quote feed =
    let b = get_or bytes n 0 in
    let before = stretch quoted bytes n (omega arith) (λ k below. quote k (omega arith)) (λ k below. feed k (omega arith)) in
    ap (λ (k : ℕ). scan quoted (take k bytes)) (sym (add-one n))
    ∙ ap (scan quoted) (take_more bytes n 0 (omega arith))
    ∙ scan_push quoted (take n bytes) quoted b before (feed n (omega arith))
    ∙ ap Some (still quoted b (quote n (omega arith)))

-- a search inside quotes for the next one
pub next_quote : (bytes : List ℕ) (found : Option ℕ) → IsFirstByte (is_byte 34) bytes found → IsMark true bytes found
next_quote bytes None first =
    ap (scan true) (sym (take_all (length bytes) bytes (omega arith)))
    ∙ stretch true bytes (length bytes) (omega arith) (λ k below is. first k (omega arith) below (eq-eqb _ _ is)) (λ k below is. refl)
next_quote bytes (Some size) first = record {
  within = first.0.high;
  before = stretch true bytes size (omega (arith, first.0.high)) (λ k below is. first.0.before k (omega arith) below (eq-eqb _ _ is)) (λ k below is. refl);
  feed = λ other. absurd (other (eqb-true _ _ first.1));
}

-- what a search for a quote or a line feed finds
finds_quote : (b : ℕ) → b ≡ 34 → is_byte2 34 10 b ≡ true
finds_quote b is = grind (arith, nat_tests)

finds_feed : (b : ℕ) → b ≡ 10 → is_byte2 34 10 b ≡ true
finds_feed b is = grind (arith, nat_tests)

found_feed : (b : ℕ) → is_byte2 34 10 b ≡ true → b ≢ 34 → b ≡ 10
found_feed b found other = grind (arith, nat_tests)

-- such a search outside quotes
pub next_of_two : (bytes : List ℕ) (found : Option ℕ) → IsFirstByte (is_byte2 34 10) bytes found → IsMark false bytes found
next_of_two bytes None first =
    ap (scan false) (sym (take_all (length bytes) bytes (omega arith)))
    ∙ stretch false bytes (length bytes) (omega arith) (λ k below is. first k (omega arith) below (finds_quote _ is)) (λ k below is. absurd (first k (omega arith) below (finds_feed _ is)))
next_of_two bytes (Some size) first = record {
  within = first.0.high;
  before = stretch false bytes size (omega (arith, first.0.high)) (λ k below is. first.0.before k (omega arith) below (finds_quote _ is)) (λ k below is. absurd (first.0.before k (omega arith) below (finds_feed _ is)));
  feed = λ other. (found_feed _ first.1 other, refl);
}

module _ (quoted : Bool) (bytes : List ℕ) (state : Bool) (from : ℕ) (gone : scan quoted (take from bytes) ≡ Some state) where
  -- the bytes up to the next that matters
  to_mark : (size : ℕ) → MarkAt state (drop from bytes) size → scan quoted (take (from + size) bytes) ≡ Some state
  to_mark size mark = ap (scan quoted) (take-add from size bytes) ∙ scan_more quoted (take from bytes) (take size (drop from bytes)) state gone ∙ mark.before

  -- and it too, where it is no line feed
  pub past_mark : (size : ℕ) → MarkAt state (drop from bytes) size → get_or bytes (from + size) 0 ≢ 10 → scan quoted (take (from + size + 1) bytes) ≡ Some (not state)
  past_mark size mark no_feed =
      let same : get_or (drop from bytes) size 0 ≡ get_or bytes (from + size) 0 = get_or-drop from bytes size 0 in
      let quote : get_or bytes (from + size) 0 ≡ 34 = ⊎_elim
      (λ quote. quote)
      (λ other. absurd (no_feed (sym same ∙ (mark.feed (λ is. other (sym same ∙ is))).0)))
      (cases_eq (get_or bytes (from + size) 0) 34) in
      ap (scan quoted) (take_more bytes (from + size) 0 (omega (arith, mark.within, length-drop from bytes)))
      ∙ scan_push quoted (take (from + size) bytes) state (get_or bytes (from + size) 0) (to_mark size mark) (λ feed. absurd (no_feed feed))
      ∙ ap (λ (b : ℕ). Some (quoted_behind state b)) quote

  -- a row ends where it is one
  pub end_at_mark : (size : ℕ) → MarkAt state (drop from bytes) size → get_or bytes (from + size) 0 ≡ 10 → EndsAt quoted bytes (from + size)
  end_at_mark size mark feed =
      let here : get_or (drop from bytes) size 0 ≡ 10 = get_or-drop from bytes size 0 ∙ feed in
      let outside : state ≡ false = (mark.feed (λ quote. absurd (omega arith))).1 in
      record {
        before = to_mark size mark ∙ ap Some outside;
        whole =
            sym (take-append-drop (from + size) bytes)
            ∙ ap (λ (back : List ℕ). take (from + size) bytes ++ back) (drop_more bytes (from + size) 0 (omega (arith, mark.within, length-drop from bytes)))
            ∙ ap (λ (b : ℕ). take (from + size) bytes ++ b ∷ drop (from + size + 1) bytes) feed;
      }

  -- none ends where no further byte matters
  pub none_ahead : scan state (drop from bytes) ≡ Some state → scan quoted bytes ≡ Some state
  none_ahead none = ap (scan quoted) (sym (take-append-drop from bytes)) ∙ scan_more quoted (take from bytes) (drop from bytes) state gone ∙ none
