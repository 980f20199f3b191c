-- Numbers that rise do so when all are moved on.
use Rattle.std.proofs.Common.{◌≡◌, ℕ, ◌+◌, ◌<◌, List, length, get_or, arith}
use Rattle.std.specs.List.Sorted.{IsStrictlyIncreasing}
use Rattle.std.proofs.lemmas.List.{length-map, get_or-map}
use Rattle.sp_parts.specs.Moving.{moved_by}

pub moved_rises : (a : ℕ) (numbers : List ℕ) → IsStrictlyIncreasing numbers → IsStrictlyIncreasing (moved_by a numbers)
moved_rises a numbers rising k low =
    let size = length-map numbers (λ n. n + a) in
    let within : k + 1 < length numbers = omega arith in
    let here : get_or (moved_by a numbers) k 0 ≡ get_or numbers k 0 + a = get_or-map (λ n. n + a) numbers k 0 0 (omega arith) in
    let next : get_or (moved_by a numbers) (k + 1) 0 ≡ get_or numbers (k + 1) 0 + a = get_or-map (λ n. n + a) numbers (k + 1) 0 0 within in
    let less = rising k within in
    omega arith
