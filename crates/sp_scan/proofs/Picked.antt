-- The numbers of pairs that pass, gathered one after another.
use Rattle.std.proofs.Common.{◌≡◌, ℕ, ◌+◌, ◌<◌, Bool, true, false, cond, List, [], ◌∷◌, ◌++◌, map, length, take, get_or, sym, ap, ◌∙◌, arith}
use Rattle.std.specs.List.{All, AllPairs, filter}
use Rattle.std.proofs.lemmas.List.{map-append, append-nil, length-map, get_or-map, length-take-le, get_or-take}
use Rattle.std.proofs.lemmas.List.Elements.{All-filter, All-from_get_or, All-map, filter_more}

-- the numbers of the pairs that pass
abbrev pub picked : (ℕ × ℕ → Bool) → List (ℕ × ℕ) → List ℕ
picked p bs = map (λ b. b.1) (filter p bs)

-- one pair more
picked_more : (p : ℕ × ℕ → Bool) (bs : List (ℕ × ℕ)) (i : ℕ) (d : ℕ × ℕ) → i < length bs → picked p (take (i + 1) bs) ≡ picked p (take i bs) ++ map (λ b. b.1) (cond (p (get_or bs i d)) (get_or bs i d ∷ []) [])
picked_more p bs i d within = ap (map (λ b. b.1)) (filter_more p bs i d within) ∙ map-append (λ b. b.1) (filter p (take i bs)) (cond (p (get_or bs i d)) (get_or bs i d ∷ []) [])

pub picked_taken : (p : ℕ × ℕ → Bool) (bs : List (ℕ × ℕ)) (i : ℕ) (d : ℕ × ℕ) → i < length bs → p (get_or bs i d) ≡ true → picked p (take (i + 1) bs) ≡ picked p (take i bs) ++ (get_or bs i d).1 ∷ []
picked_taken p bs i d within passes = picked_more p bs i d within ∙ λ j. picked p (take i bs) ++ map (λ b. b.1) (cond (passes j) (get_or bs i d ∷ []) [])

pub picked_passed : (p : ℕ × ℕ → Bool) (bs : List (ℕ × ℕ)) (i : ℕ) (d : ℕ × ℕ) → i < length bs → p (get_or bs i d) ≡ false → picked p (take (i + 1) bs) ≡ picked p (take i bs)
picked_passed p bs i d within fails = picked_more p bs i d within ∙ (λ j. picked p (take i bs) ++ map (λ b. b.1) (cond (fails j) (get_or bs i d ∷ []) [])) ∙ append-nil (picked p (take i bs))

-- the numbers so far are below the next one
pub picked_below : (p : ℕ × ℕ → Bool) (bs : List (ℕ × ℕ)) (i : ℕ) (d : ℕ × ℕ) → AllPairs (λ m n. m < n) (map (λ b. b.1) bs) → i < length bs → All (λ m. m < (get_or bs i d).1) (picked p (take i bs))
picked_below p bs i d rising within =
    let top = (get_or bs i d).1 in
    All-map (λ m. m < top) (λ b. b.1) (filter p (take i bs)) (All-filter p (λ b. b.1 < top) (take i bs) (All-from_get_or (λ b. b.1 < top) (take i bs) d (λ j inside.
    let long : length (take i bs) ≡ i = length-take-le i bs (omega arith) in
    let size = length-map bs (λ (b : ℕ × ℕ). b.1) in
    let small : j < i = omega (arith, inside, long) in
    let rises : get_or (map (λ b. b.1) bs) j 0 < get_or (map (λ b. b.1) bs) i 0 = rising j i 0 small (omega (arith, within, size)) in
    let first : get_or (map (λ b. b.1) bs) j 0 ≡ (get_or (take i bs) j d).1 = get_or-map (λ b. b.1) bs j d 0 (omega arith) ∙ ap (λ b. b.1) (sym (get_or-take i bs j d small)) in
    let second : get_or (map (λ b. b.1) bs) i 0 ≡ top = get_or-map (λ b. b.1) bs i d 0 within in
    omega (arith, rises, first, second))))
