-- Stretches made longer, repeated and counted.
use Rattle.std.proofs.Common.{◌≡◌, ℕ, false, zero, suc, ◌+◌, ◌*◌, ◌<◌, ◌==◌, ◌&&◌, List, [], ◌∷◌, ◌++◌, length, take, get_or, set, replicate, refl, sym, ap, ◌∙◌, arith, append_assoc, length-append}
use Rattle.std.specs.Bool.{Decides}
use Rattle.std.proofs.Math.Nat.{mul-suc, mul-zero}
use Rattle.std.proofs.lemmas.Bool.Decides.{Decides-and, Decides-eqb, Decides-like, nat_tests}
use Rattle.std.proofs.lemmas.Grind.{flat_map-append}
use Rattle.std.proofs.lemmas.List.{append-nil, length-replicate, replicate-append-replicate, take_more}
use Rattle.std.proofs.lemmas.List.Elements.{All-append, All-head}
use Rattle.sp_wants.specs.declared.stretch.Stretch.{Stretch}
use Rattle.sp_wants.specs.Stretches.{NoneEmpty, all_pairs, pairs_of, repeated}
use Rattle.sp_wants.specs.contracts.stretch.StretchPartialEq.TheImpl.{eq-value as stretch_eq}

-- a stretch made longer
pub longer_pairs : (x y : Stretch) (n : ℕ) → y.before ≡ x.before → y.after ≡ x.after → y.times ≡ x.times + n → pairs_of y ≡ pairs_of x ++ replicate n (x.before, x.after)
longer_pairs x y n before after times =
    (λ i. replicate (times i) (before i, after i)) ∙ sym (replicate-append-replicate x.times n (x.before, x.after))

-- the last of several made longer
pub longer : (x y : Stretch) (ps : List (ℕ × ℕ)) → pairs_of y ≡ pairs_of x ++ ps → (xs : List Stretch) (i : ℕ) → i + 1 ≡ length xs → x ≡ get_or xs i x → all_pairs (set xs i y) ≡ all_pairs xs ++ ps
longer x y ps is [] i end here = absurd (omega (arith, end))
longer x y ps is (z ∷ []) zero end here =
    append-nil (pairs_of y) ∙ is ∙ ap (λ (s : Stretch). pairs_of s ++ ps) here ∙ ap (λ (l : List (ℕ × ℕ)). l ++ ps) (sym (append-nil (pairs_of z)))
longer x y ps is (z ∷ w ∷ zs) zero end here = absurd (omega (arith, end))
longer x y ps is (z ∷ zs) (suc i) end here =
    ap (λ (l : List (ℕ × ℕ)). pairs_of z ++ l) (longer x y ps is zs i (omega (arith, end)) here) ∙ sym (append_assoc (pairs_of z) (all_pairs zs) ps)

-- those of stretches that are repeated
pub repeated_pairs : (n : ℕ) (xs : List Stretch) → all_pairs (repeated n xs) ≡ repeated n (all_pairs xs)
repeated_pairs zero xs = refl
repeated_pairs (suc n) xs = flat_map-append pairs_of (repeated n xs) xs ∙ ap (λ (l : List (ℕ × ℕ)). l ++ all_pairs xs) (repeated_pairs n xs)

-- equal pairs repeated are equal pairs
pub repeated_same : (n k : ℕ) (p : ℕ × ℕ) → repeated n (replicate k p) ≡ replicate (k * n) p
repeated_same zero k p = ap (λ (m : ℕ). replicate m p) (sym (mul-zero k))
repeated_same (suc n) k p =
    ap (λ (l : List (ℕ × ℕ)). l ++ replicate k p) (repeated_same n k p) ∙ replicate-append-replicate (k * n) k p ∙ ap (λ (m : ℕ). replicate m p) (sym (mul-suc k n))

-- a lone stretch repeated
pub repeated_lone : (xs : List Stretch) (d : Stretch) (n all : ℕ) → length xs ≡ 1 → all ≡ (get_or xs 0 d).times * n → replicate all ((get_or xs 0 d).before, (get_or xs 0 d).after) ≡ repeated n (all_pairs xs)
repeated_lone [] d n all one is = absurd (omega (arith, one))
repeated_lone (x ∷ []) d n all one is =
    ap (λ (m : ℕ). replicate m (x.before, x.after)) is ∙ sym (repeated_same n x.times (x.before, x.after)) ∙ ap (repeated n) (sym (append-nil (pairs_of x)))
repeated_lone (x ∷ y ∷ ys) d n all one is = absurd (omega (arith, one))

-- repeated, none of them is empty
pub repeated_some : (n : ℕ) (xs : List Stretch) → NoneEmpty xs → NoneEmpty (repeated n xs)
repeated_some zero xs some = λ k d less. absurd (omega (arith, less))
repeated_some (suc n) xs some = All-append (λ (s : Stretch). 0 < s.times) (repeated n xs) xs (repeated_some n xs some) some

-- one stretch more is so many pairs more
pub more_counted : (xs : List Stretch) (i : ℕ) (d : Stretch) → i < length xs → length (all_pairs (take (i + 1) xs)) ≡ length (all_pairs (take i xs)) + (get_or xs i d).times
more_counted xs i d within =
    let s : Stretch = get_or xs i d in
    ap (λ (l : List Stretch). length (all_pairs l)) (take_more xs i d within) ∙ ap length (flat_map-append pairs_of (take i xs) (s ∷ []))
    ∙ length-append (all_pairs (take i xs)) (pairs_of s ++ []) ∙ ap (λ (l : List (ℕ × ℕ)). length (all_pairs (take i xs)) + length l) (append-nil (pairs_of s))
    ∙ ap (λ (m : ℕ). length (all_pairs (take i xs)) + m) (length-replicate s.times (s.before, s.after))

-- where none is empty, there is a pair where there is a stretch
pub no_pairs : (xs : List Stretch) → NoneEmpty xs → (length xs == 0) ≡ (length (all_pairs xs) == 0)
no_pairs [] some = refl
no_pairs (x ∷ xs) some =
    let many : length (all_pairs (x ∷ xs)) ≡ x.times + length (all_pairs xs) =
    length-append (pairs_of x) (all_pairs xs) ∙ ap (λ (n : ℕ). n + length (all_pairs xs)) (length-replicate x.times (x.before, x.after)) in
    let one : 0 < x.times = All-head (λ (s : Stretch). 0 < s.times) x xs some in
    let left : (length (x ∷ xs) == 0) ≡ false = grind (arith, nat_tests) in
    let right : (length (all_pairs (x ∷ xs)) == 0) ≡ false = grind (arith, nat_tests) in
    left ∙ sym right

-- what is told of two stretches that are the same
pub stretch_decides : (a b : Stretch) → Decides (stretch_eq.it a b) (a ≡ b)
stretch_decides a b =
    Decides-like (a.before == b.before && (a.after == b.after && a.times == b.times)) (λ p. λ i. record { before = p.0 i; after = p.1.0 i; times = p.1.1 i })
    (λ e. (ap (λ (s : Stretch). s.before) e, (ap (λ (s : Stretch). s.after) e, ap (λ (s : Stretch). s.times) e)))
    (Decides-and (a.before == b.before) (a.after == b.after && a.times == b.times) (Decides-eqb a.before b.before) (Decides-and (a.after == b.after) (a.times == b.times) (Decides-eqb a.after b.after) (Decides-eqb a.times b.times)))
