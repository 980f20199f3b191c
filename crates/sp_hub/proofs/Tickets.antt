-- How many of the tickets that were collected are of each seat.
use Rattle.std.proofs.Common.{◌≡◌, ◌≢◌, ◌<◌, ◌≤◌, ℕ, zero, suc, ◌+◌, true, false, length, List, [], ◌∷◌, Some, ap, refl, sym, ◌∙◌, ◌⊎◌, inl, inr, ⊎_elim, eqb, leb, arith}
use Rattle.std.specs.Prelude.{◌==◌, if◌then◌else◌, slice_get}
use Rattle.std.specs.List.{AllByRecursion, IsDistinct, list_any, sum}
use Rattle.std.proofs.lemmas.List.{length-append, length-map}
use Rattle.std.proofs.lemmas.List.Concat.{flat_map-cons}
use Rattle.std.proofs.lemmas.List.Sums.{sum_by-cons}
use Rattle.std.proofs.lemmas.Bool.Decides.{eqb_tells, leb_tells}
use Rattle.std.proofs.lemmas.Map.Keys.{IsDistinct-cons}
use Rattle.std.proofs.lemmas.Map.Steps.{length-le_from_distinct_below}
use Rattle.sp_hub.specs.Collecting.{ticket_by, tickets_by}
use Rattle.sp_hub.specs.WayHome.{numbers_back}

-- ---- of one seat

abbrev many : ℕ → List (ℕ × ℕ) → ℕ
many k got = length (tickets_by k got)

many_cons : (k : ℕ) (p : ℕ × ℕ) (got : List (ℕ × ℕ)) → many k (p ∷ got) ≡ length (ticket_by k p) + many k got
many_cons k p got = ap length (flat_map-cons (ticket_by k) p got) ∙ length-append (ticket_by k p) (tickets_by k got)

own : (p : ℕ × ℕ) → length (ticket_by p.0 p) ≡ 1
own p = ⊎_elim (λ (t : (eqb p.0 p.0 ≡ true) × (p.0 ≡ p.0)). ap (λ b. length (if b then p.1 ∷ [] else [])) t.0) (λ (t : (eqb p.0 p.0 ≡ false) × (p.0 ≢ p.0)). absurd (t.1 refl)) (eqb_tells p.0 p.0)

no_length : (l : List ℕ) → length l ≡ 0 → l ≡ []
no_length [] none = refl
no_length (x ∷ l) none = absurd (omega (arith, none))

-- where numbers from one on have no ticket, each ticket is of a number below it
pub all_known : (made : ℕ) (got : List (ℕ × ℕ)) → ((k : ℕ) → made ≤ k → tickets_by k got ≡ []) → AllByRecursion (λ p. p.0 < made) got
all_known made [] none = tt
all_known made (p ∷ got) none =
    let parts = many_cons p.0 p got in
    let one = own p in (
      ⊎_elim
          (λ (t : (leb made p.0 ≡ true) × (made ≤ p.0)). let here : many p.0 (p ∷ got) ≡ 0 = ap length (none p.0 t.1) in absurd (omega (arith, here, parts, one)))
          (λ (t : (leb made p.0 ≡ false) × (p.0 < made)). t.1)
          (leb_tells made p.0),
      all_known made got (λ k high.
          let all : many k (p ∷ got) ≡ 0 = ap length (none k high) in
          let split = many_cons k p got in
          no_length (tickets_by k got) (omega (arith, all, split))),
    )

-- ---- of so many seats from one on

abbrev of_seats : ℕ → ℕ → List (ℕ × ℕ) → ℕ
of_seats from zero got = 0
of_seats from (suc n) got = many from got + of_seats (suc from) n got

no_fewer : (from n : ℕ) (p : ℕ × ℕ) (got : List (ℕ × ℕ)) → of_seats from n got ≤ of_seats from n (p ∷ got)
no_fewer from zero p got = omega arith
no_fewer from (suc n) p got =
    let rest = no_fewer (suc from) n p got in
    let parts = many_cons from p got in
    omega arith

one_more : (from n : ℕ) (p : ℕ × ℕ) (got : List (ℕ × ℕ)) → from ≤ p.0 → p.0 < from + n → suc (of_seats from n got) ≤ of_seats from n (p ∷ got)
one_more from zero p got low high = absurd (omega (arith, low, high))
one_more from (suc n) p got low high = ⊎_elim
    (λ (t : (eqb p.0 from ≡ true) × (p.0 ≡ from)).
    let mine : length (ticket_by from p) ≡ 1 = ap (λ k. length (ticket_by k p)) (sym t.1) ∙ own p in
    let parts = many_cons from p got in
    let rest = no_fewer (suc from) n p got in
    omega (arith, mine, parts, rest))
    (λ (t : (eqb p.0 from ≡ false) × (p.0 ≢ from)).
    let apart = t.1 in
    let later = one_more (suc from) n p got (omega (arith, low, apart)) (omega (arith, high)) in
    let parts = many_cons from p got in
    omega (arith, later, parts))
    (eqb_tells p.0 from)

all_of : (n : ℕ) (got : List (ℕ × ℕ)) → AllByRecursion (λ p. p.0 < n) got → length got ≤ of_seats 0 n got
all_of n [] known = omega arith
all_of n (p ∷ got) known =
    let rest = all_of n got known.1 in
    let below = known.0 in
    let more = one_more 0 n p got (omega arith) (omega (arith, below)) in
    omega (arith, rest, more)

at_most : (from : ℕ) (puts : List ℕ) (got : List (ℕ × ℕ)) → ((j k x : ℕ) → k ≡ from + j → slice_get puts j ≡ Some x → many k got ≤ x) → of_seats from (length puts) got ≤ sum puts
at_most from [] got each = omega arith
at_most from (x ∷ puts) got each =
    let here : many from got ≤ x = each 0 from x (omega arith) refl in
    let rest : of_seats (suc from) (length puts) got ≤ sum puts = at_most (suc from) puts got (λ j k y at is. each (suc j) k y (omega (arith, at)) is) in
    let sums = sum_by-cons (λ (z : ℕ). z) x puts in
    omega (arith, here, rest, sums)

-- there are as many at most as the numbers add up to, where each is of a number below the count, and of each number as many at most as its own
pub all_within : (puts : List ℕ) (got : List (ℕ × ℕ)) → AllByRecursion (λ p. p.0 < length puts) got
    → ((k x : ℕ) → slice_get puts k ≡ Some x → many k got ≤ x) → length got ≤ sum puts
all_within puts got known each =
    let whole = all_of (length puts) got known in
    let most = at_most 0 puts got (λ j k x at is. let same : k ≡ j = omega (arith, at) in each k x (ap (slice_get puts) same ∙ is)) in
    omega (arith, whole, most)

-- ---- each number is that of a seat that came back

found : (Q : ℕ × List ℕ → Type 0) (back : List (ℕ × List ℕ)) (n : ℕ) → AllByRecursion Q back → ((b : ℕ × List ℕ) × (n ≡ b.0) × Q b) ⊎ AllByRecursion (λ y. (n == y) ≡ false) (numbers_back back)
found Q [] n all = inr tt
found Q (b ∷ back) n all = ⊎_elim
    (λ (t : (eqb n b.0 ≡ true) × (n ≡ b.0)). inl (b, t.1, all.0))
    (λ (t : (eqb n b.0 ≡ false) × (n ≢ b.0)).
    ⊎_elim (λ (f : (b : ℕ × List ℕ) × (n ≡ b.0) × Q b). inl f) (λ (r : AllByRecursion (λ y. (n == y) ≡ false) (numbers_back back)). inr (t.0, r)) (found Q back n all.1))
    (eqb_tells n b.0)

numbers_below : (back : List (ℕ × List ℕ)) (n : ℕ) → AllByRecursion (λ b. b.0 < n) back → AllByRecursion (λ x. x < n) (numbers_back back)
numbers_below [] n all = tt
numbers_below (b ∷ back) n all = (all.0, numbers_below back n all.1)

below_any : (xs : List ℕ) (n : ℕ) → AllByRecursion (λ x. x < n) xs → (q : ℕ) → list_any (eqb q) xs ≡ true → q < n
below_any [] n all q is = cc
below_any (x ∷ xs) n all q is = ⊎_elim
    (λ (t : (eqb q x ≡ true) × (q ≡ x)). let low = all.0 in let same = t.1 in omega (arith, low, same))
    (λ (t : (eqb q x ≡ false) × (q ≢ x)). below_any xs n all.1 q (rw t.0 at is))
    (eqb_tells q x)

-- of as many seats as numbers below a count, with numbers of their own, one has each number
pub none_missing : (Q : ℕ × List ℕ → Type 0) (back : List (ℕ × List ℕ)) (count n : ℕ) → IsDistinct (λ a b. a == b) (numbers_back back) → AllByRecursion (λ b. b.0 < count) back → length back ≡ count → n < count
    → AllByRecursion Q back → (b : ℕ × List ℕ) × (n ≡ b.0) × Q b
none_missing Q back count n apart below many less all = ⊎_elim
    (λ (f : (b : ℕ × List ℕ) × (n ≡ b.0) × Q b). f)
    (λ (r : AllByRecursion (λ y. (n == y) ≡ false) (numbers_back back)).
    let long : length (n ∷ numbers_back back) ≤ count =
    length-le_from_distinct_below (n ∷ numbers_back back) count (IsDistinct-cons (λ a b. a == b) n (numbers_back back) r apart) (below_any (n ∷ numbers_back back) count (less, numbers_below back count below)) in
    let same = length-map back (λ (b : ℕ × List ℕ). b.0) in
    absurd (omega (arith, long, same, many)))
    (found Q back n all)
