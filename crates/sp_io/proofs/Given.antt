-- A piece that a source in memory gives.
use Rattle.std.proofs.Common.{◌≡◌, ℕ, ◌+◌, Bool, true, false, List, ◌++◌, length, take, drop, sym, ◌∙◌, take-append-drop}
use Rattle.std.proofs.lemmas.List.{take_at, drop-drop}
use Rattle.sp_io.specs.ByteSource.{rest_of}

pub gave : (ended : Bool) (xs into copied : List ℕ) (at count : ℕ) → ended ≡ false → copied ≡ take count (drop at xs) → length copied ≡ count → rest_of ended (drop at xs) ≡ take count (copied ++ drop count into) ++ rest_of ended (drop (at + count) xs)
gave true xs into copied at count is same size = cc
gave false xs into copied at count is same size =
    let front : take count (copied ++ drop count into) ≡ copied = take_at copied (drop count into) count size in
    let back : drop count (drop at xs) ≡ drop (at + count) xs = drop-drop count at xs in
    sym (take-append-drop count (drop at xs)) ∙ (λ i. sym (front ∙ same) i ++ back i)
