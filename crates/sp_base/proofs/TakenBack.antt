-- A text from which what was added to it is taken off again.
use Rattle.std.proofs.Common.{◌≡◌, ℕ, ◌≤◌, ◌++◌, List, length, take, drop, Result, Ok, Err, OnErr, subst, sym, ◌∙◌, ap, arith, append_assoc}
use Rattle.std.specs.Prelude.{String, string_bytes}
use Rattle.std.specs.Str.{IsUtf8}
use Rattle.std.specs.String.Boundary.{IsSplitPoint}
use Rattle.std.proofs.Math.Seq.{take-append_seam}
use Rattle.std.proofs.lemmas.List.{length-take, take-append-drop}
use Rattle.std.proofs.lemmas.Str.{IsCharBoundary-from_take, IsUtf8-string_bytes}

-- what a text begins with is no longer than it
no_longer : (old new : List ℕ) → take (length old) new ≡ old → length old ≤ length new
no_longer old new e = omega (arith, length-take (length old) new, ap length e)

-- what holds anyway holds after want of memory
pub anyway : {T E P : Type 0} (r : Result T E) → P → OnErr r P
anyway (Ok x) p = tt
anyway (Err e) p = p

-- what begins with a text that was added to begins with what stood there before
pub begins_still : (first added old new : List ℕ) → old ≡ first ++ added → take (length old) new ≡ old → take (length first) new ≡ first
begins_still first added old new grown begins =
    let parts : new ≡ first ++ (added ++ drop (length old) new) =
    sym (take-append-drop (length old) new) ∙ ap (λ (l : List ℕ). l ++ drop (length old) new) (begins ∙ grown) ∙ append_assoc first added (drop (length old) new) in
    ap (λ (l : List ℕ). take (length first) l) parts ∙ take-append_seam first (added ++ drop (length old) new)

-- a text may be cut where another text, of so many bytes, ends that it begins with
pub may_be_cut : {Z : Type 0} (old new : String Z) (n : ℕ) → length (string_bytes old) ≡ n → take (length (string_bytes old)) (string_bytes new) ≡ string_bytes old
    → IsSplitPoint (string_bytes new) n
may_be_cut old new n size e =
    let within = no_longer (string_bytes old) (string_bytes new) e in
    let at = IsCharBoundary-from_take (string_bytes new) (length (string_bytes old)) (IsUtf8-string_bytes new) within (subst IsUtf8 (sym e) (IsUtf8-string_bytes old)) in
    subst (λ (n : ℕ). IsSplitPoint (string_bytes new) n) size (at.0, λ _. at.1)
