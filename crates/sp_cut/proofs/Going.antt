-- Going through bytes, one after another.
use Rattle.std.proofs.Common.{◌≡◌, ◌≤◌, ◌+◌, ℕ, Bool, true, false, ◌&&◌, not, ◌==◌, List, [], ◌∷◌, ◌++◌, length, take, drop, sym, ◌∙◌, ap, arith, append_assoc, length-append, length-drop}
use Rattle.std.specs.Prelude.{if◌then◌else◌, Some, None}
use Rattle.std.proofs.lemmas.Bool.Decides.{nat_tests}
use Rattle.std.proofs.lemmas.List.{take-append-drop, take-append-le, drop-append-le, drop-drop, take_all, length-take}
use Rattle.std.proofs.Math.Seq.{take-add}
use Rattle.sp_cut.specs.Scan.{quoted_behind, scan, EndsAt, IsScanned}
use Rattle.sp_cut.proofs.Parts.{scan_more}

-- a byte that ends no row is gone through
pub scan_push : (quoted : Bool) (bytes : List ℕ) (state : Bool) (b : ℕ) → scan quoted bytes ≡ Some state → (b ≡ 10 → state ≡ true) → scan quoted (bytes ++ b ∷ []) ≡ Some (quoted_behind state b)
scan_push quoted bytes state b is inside =
    let no_end : (b == 10 && not state) ≡ false = shut state inside in
    scan_more quoted bytes (b ∷ []) state is ∙ ap (λ (ends : Bool). if ends then None else Some (quoted_behind state b)) no_end
  where
    shut : (state : Bool) → (b ≡ 10 → state ≡ true) → (b == 10 && not state) ≡ false
    shut true inside = grind (arith, nat_tests)
    shut false inside = grind (arith, nat_tests)

-- a line feed that ends a row is one of the bytes
pub ends_within : (bytes : List ℕ) (size : ℕ) (quoted : Bool) → EndsAt quoted bytes size → size + 1 ≤ length bytes
ends_within bytes size quoted ends =
    let whole : length bytes ≡ length (take size bytes) + length (10 ∷ drop (size + 1) bytes) = ap length ends.whole ∙ length-append (take size bytes) (10 ∷ drop (size + 1) bytes) in
    omega (arith, whole, length-take size bytes, length-drop (size + 1) bytes)

-- where a row ends behind the bytes gone through
pub ends_behind : (bytes : List ℕ) (n size : ℕ) (quoted : Bool) → IsScanned bytes n quoted → EndsAt quoted (drop n bytes) size → EndsAt false bytes (n + size)
ends_behind bytes n size quoted scanned ends = record {
  before = ap (scan false) (take-add n size bytes) ∙ scan_more false (take n bytes) (take size (drop n bytes)) quoted scanned.state ∙ ends.before;
  whole =
      let more : drop (size + 1) (drop n bytes) ≡ drop (n + size + 1) bytes = drop-drop (size + 1) n bytes ∙ ap (λ (k : ℕ). drop k bytes) (omega arith) in
      sym (take-append-drop n bytes)
      ∙ ap (λ (back : List ℕ). take n bytes ++ back) ends.whole
      ∙ sym (append_assoc (take n bytes) (take size (drop n bytes)) (10 ∷ drop (size + 1) (drop n bytes)))
      ∙ (λ i. sym (take-add n size bytes) i ++ 10 ∷ more i);
}

-- the bytes before the end of a row were gone through, with no quote open behind them
pub scanned_to_end : (bytes : List ℕ) (size : ℕ) → EndsAt false bytes size → IsScanned bytes size false
scanned_to_end bytes size ends = record {
  within = let inside = ends_within bytes size false ends in omega arith;
  state = ends.before;
}

-- no row ends in all the bytes where none does behind those gone through
pub rest_behind : (bytes : List ℕ) (n : ℕ) (quoted state : Bool) → IsScanned bytes n quoted → scan quoted (drop n bytes) ≡ Some state → scan false bytes ≡ Some state
rest_behind bytes n quoted state scanned is =
    ap (scan false) (sym (take-append-drop n bytes)) ∙ scan_more false (take n bytes) (drop n bytes) quoted scanned.state ∙ is

-- then all of them were gone through
pub scanned_all : (bytes : List ℕ) (size : ℕ) (state : Bool) → size ≡ length bytes → scan false bytes ≡ Some state → IsScanned bytes size state
scanned_all bytes size state all is = record {
  within = omega arith;
  state = ap (scan false) (take_all size bytes (omega arith)) ∙ is;
}

-- what comes behind doesn't move the end of a row
pub ends_still : (bytes more : List ℕ) (size : ℕ) → EndsAt false bytes size → EndsAt false (bytes ++ more) size
ends_still bytes more size ends =
    let within = ends_within bytes size false ends in
    let front : take size bytes ≡ take size (bytes ++ more) = sym (take-append-le size bytes more (omega arith)) in
    let back : drop (size + 1) bytes ++ more ≡ drop (size + 1) (bytes ++ more) = sym (drop-append-le (size + 1) bytes more within) in
    record {
      before = ap (scan false) (sym front) ∙ ends.before;
      whole = ap (λ (xs : List ℕ). xs ++ more) ends.whole ∙ append_assoc (take size bytes) (10 ∷ drop (size + 1) bytes) more ∙ (λ i. front i ++ 10 ∷ back i);
    }
