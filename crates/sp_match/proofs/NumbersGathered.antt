-- The numbers under each name, gathered in one pass.
use Rattle.std.proofs.Common.{◌≡◌, ◌≢◌, ℕ, ◌<◌, Bool, true, false, cond, ◌==◌, List, [], ◌∷◌, ◌++◌, map, length, take, get_or, set, refl, sym, ap, ◌∙◌, arith, get_or-set_other}
use Rattle.std.specs.List.{All, AllPairs, filter, range_with_len, zip}
use Rattle.std.proofs.lemmas.Bool.Decides.{nat_tests}
use Rattle.std.proofs.lemmas.Grind.{get_or-set_at}
use Rattle.std.proofs.lemmas.List.{map-append, append-nil, length-set, length-map, same_lists, get_or-map, length-take-le, get_or-take}
use Rattle.std.proofs.lemmas.List.Elements.{All-filter, All-from_get_or, All-map, filter-append}
use Rattle.std.proofs.lemmas.List.FromFn.{length-map-range_with_len, get_or-map-range_with_len}
use Rattle.sp_plan.specs.declared.event.Event.{Event}
use Rattle.sp_plan.specs.Runs.{numbers_under}
use Rattle.sp_match.specs.inside.Kept.{pair_of}
use Rattle.sp_match.proofs.PairsOfRuns.{under_pairs}

-- the numbers under a name
abbrev pub under : List (ℕ × ℕ) → ℕ → List ℕ
under bs name = map (λ b. b.1) (filter (λ b. b.0 == name) bs)

abbrev pub named_under : List (ℕ × ℕ) → ℕ → ℕ × List ℕ
named_under bs name = (name, under bs name)

under_push : (bs : List (ℕ × ℕ)) (b : ℕ × ℕ) (name : ℕ) → under (bs ++ b ∷ []) name ≡ under bs name ++ cond (b.0 == name) (b.1 ∷ []) []
under_push bs b name =
    ap (map (λ b. b.1)) (filter-append (λ b. b.0 == name) bs (b ∷ [])) ∙ map-append (λ b. b.1) (filter (λ b. b.0 == name) bs) (cond (b.0 == name) (b ∷ []) [])
    ∙ ap (λ rest. under bs name ++ rest) (one (b.0 == name))
  where
    one : (t : Bool) → map (λ b. b.1) (cond t (b ∷ []) []) ≡ cond t (b.1 ∷ []) []
    one true = refl
    one false = refl

-- one pair more: its number is put behind those of its name
pub under_more : (bs : List (ℕ × ℕ)) (b : ℕ × ℕ) (n : ℕ) (lists : List (ℕ × List ℕ)) → b.0 < n → lists ≡ map (named_under bs) (range_with_len 0 n)
    → set lists b.0 (b.0, under bs b.0 ++ b.1 ∷ []) ≡ map (named_under (bs ++ b ∷ [])) (range_with_len 0 n)
under_more bs b n lists within is =
    same_lists (set lists b.0 (b.0, under bs b.0 ++ b.1 ∷ [])) (map (named_under (bs ++ b ∷ [])) (range_with_len 0 n)) long
    (λ i d inside. let small : i < n = omega (arith, inside, size, length-set lists b.0 (b.0, under bs b.0 ++ b.1 ∷ [])) in at i d small (i == b.0) refl ∙ sym (get_or-map-range_with_len (named_under (bs ++ b ∷ [])) 0 n i i d small (omega arith)))
  where
    size : length lists ≡ n
    size = ap length is ∙ length-map-range_with_len (named_under bs) 0 n

    long : length (set lists b.0 (b.0, under bs b.0 ++ b.1 ∷ [])) ≡ length (map (named_under (bs ++ b ∷ [])) (range_with_len 0 n))
    long = length-set lists b.0 (b.0, under bs b.0 ++ b.1 ∷ []) ∙ size ∙ sym (length-map-range_with_len (named_under (bs ++ b ∷ [])) 0 n)

    at : (i : ℕ) (d : ℕ × List ℕ) → i < n → (t : Bool) → (i == b.0) ≡ t → get_or (set lists b.0 (b.0, under bs b.0 ++ b.1 ∷ [])) i d ≡ named_under (bs ++ b ∷ []) i
    at i d small true e =
        let same : i ≡ b.0 = grind (arith, nat_tests) in
        let yes : (b.0 == i) ≡ true = grind (arith, nat_tests) in
        let unyes : true ≡ (b.0 == i) = sym yes in
        let back : b.0 ≡ i = sym same in
        get_or-set_at lists b.0 i (b.0, under bs b.0 ++ b.1 ∷ []) d same (omega (arith, within, size)) ∙ (λ j. (back j, under bs (back j) ++ cond (unyes j) (b.1 ∷ []) []))
        ∙ ap (λ ns. (i, ns)) (sym (under_push bs b i))
    at i d small false e =
        let other : i ≢ b.0 = grind (arith, nat_tests) in
        let no_one : (b.0 == i) ≡ false = grind (arith, nat_tests) in
        let still : false ≡ (b.0 == i) = sym no_one in
        get_or-set_other lists b.0 i (b.0, under bs b.0 ++ b.1 ∷ []) d other ∙ ap (λ ls. get_or ls i d) is ∙ get_or-map-range_with_len (named_under bs) 0 n i i d small (omega arith)
        ∙ ap (λ ns. (i, ns)) (sym (append-nil (under bs i)) ∙ (λ j. under bs i ++ cond (still j) (b.1 ∷ []) []) ∙ sym (under_push bs b i))

-- the numbers so far are below the next one
pub under_below : (bs : List (ℕ × ℕ)) (i : ℕ) (b : ℕ × ℕ) (name : ℕ) → AllPairs (λ m n. m < n) (map (λ p. p.1) bs) → i < length bs → b ≡ get_or bs i b → All (λ m. m < b.1) (under (take i bs) name)
under_below bs i b name rising within at =
    All-map (λ m. m < b.1) (λ p. p.1) (filter (λ b. b.0 == name) (take i bs)) (All-filter (λ b. b.0 == name) (λ p. p.1 < b.1) (take i bs) (All-from_get_or (λ p. p.1 < b.1) (take i bs) b (λ j inside.
    let long : length (take i bs) ≡ i = length-take-le i bs (omega arith) in
    let size = length-map bs (λ (p : ℕ × ℕ). p.1) in
    let small : j < i = omega (arith, inside, long) in
    let rises : get_or (map (λ p. p.1) bs) j 0 < get_or (map (λ p. p.1) bs) i 0 = rising j i 0 small (omega (arith, within, size)) in
    let first : get_or (map (λ p. p.1) bs) j 0 ≡ (get_or (take i bs) j b).1 = get_or-map (λ p. p.1) bs j b 0 (omega arith) ∙ ap (λ p. p.1) (sym (get_or-take i bs j b small)) in
    let second : get_or (map (λ p. p.1) bs) i 0 ≡ b.1 = get_or-map (λ p. p.1) bs i b 0 within ∙ ap (λ p. p.1) (sym at) in
    omega (arith, rises, first, second))))

-- of each of these names
pub map_under : (bs : List (ℕ × ℕ)) (es : List (ℕ × Event)) → map (λ p. p.0) bs ≡ map (λ p. p.0) es → (names : List ℕ) → map (λ name. (name, numbers_under (map pair_of (zip bs es)) name)) names ≡ map (named_under bs) names
map_under bs es same [] = refl
map_under bs es same (name ∷ names) = λ i. (name, under_pairs name bs es same i) ∷ map_under bs es same names i
