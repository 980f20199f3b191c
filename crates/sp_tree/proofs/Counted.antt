-- The ids of children: those that hang below a version are those of its children, each once.
use Rattle.std.proofs.Common.{◌≡◌, ◌≢◌, ℕ, ◌<◌, ◌≤◌, Bool, true, false, cond, not, ◌||◌, ◌==◌, List, [], ◌∷◌, ◌++◌, filter, map, reverse, refl, sym, ap, subst, ◌∙◌, arith, eqb, eq-eqb}
use Rattle.std.specs.List.{IsDistinct, AllByRecursion}
use Rattle.std.specs.List.Sorted.{IsPermutation, IsSorted}
use Rattle.std.specs.Ordering.{nat_cmp}
use Rattle.std.proofs.lemmas.Bool.{false≢true}
use Rattle.std.proofs.lemmas.Bool.Decides.{nat_tests}
use Rattle.std.proofs.lemmas.List.{reverse-append}
use Rattle.std.proofs.lemmas.List.Sorted.{IsPermutation-refl, IsPermutation-map, IsPermutation-trans, IsPermutation-append, IsPermutation-filter_both, IsPermutation-reverse, list_any-IsPermutation}
use Rattle.std.proofs.lemmas.List.Sorted.{IsNonDecreasingBy-from_sort}
use Rattle.std.proofs.lemmas.Map.Keys.{IsStrictlyIncreasing-from_distinct, IsDistinct-IsPermutation}
use Rattle.std.proofs.lemmas.List.Folds.{list_any-append}
use Rattle.sp_base.specs.Numbers.{is_among}
use Rattle.sp_tree.specs.Children.{AreOver, HaveOther, AreApart, IsRising}
use Rattle.sp_tree.specs.Shape.{Shape, Nothing, Child, Group, vertex, having, lacking, built, ids_below}
use Rattle.sp_tree.proofs.Decided.{rises}
use Rattle.sp_tree.proofs.Held.{HaveRising, rising_same}

same : (m n : ℕ) → (m == n) ≡ true → m ≡ n
same m n h = grind (arith, nat_tests)

differs : (m n : ℕ) → m ≢ n → (m == n) ≡ false
differs m n h = grind (arith, nat_tests)

-- no child's label agrees with this on the groups
abbrev OtherOn : List ℕ → List ℕ → List (List ℕ × ℕ) → Type 0
OtherOn gs label [] = Unit {0}
OtherOn gs label (c ∷ cs) = ¬ ((r : ℕ) → is_among gs r ≡ true → is_among c.0 r ≡ is_among label r) × OtherOn gs label cs

abbrev pub ApartOn : List ℕ → List (List ℕ × ℕ) → Type 0
ApartOn gs [] = Unit {0}
ApartOn gs (c ∷ cs) = OtherOn gs c.0 cs × ApartOn gs cs

both_in : (gs l m : List ℕ) → ((r : ℕ) → is_among l r ≡ true → is_among gs r ≡ true) → ((r : ℕ) → is_among m r ≡ true → is_among gs r ≡ true)
    → ((r : ℕ) → is_among gs r ≡ true → is_among l r ≡ is_among m r) → (r : ℕ) → is_among l r ≡ is_among m r
both_in gs l m over under agree r = one (is_among l r) refl (is_among m r) refl
  where
    one : (a : Bool) → is_among l r ≡ a → (b : Bool) → is_among m r ≡ b → a ≡ b
    one true e b k = sym e ∙ agree r (over r e) ∙ k
    one false e true k = sym e ∙ agree r (under r k) ∙ k
    one false e false k = refl

other_on : (gs label : List ℕ) (cs : List (List ℕ × ℕ)) → ((r : ℕ) → is_among label r ≡ true → is_among gs r ≡ true) → IsRising label → AreOver gs cs → HaveRising cs → HaveOther label cs → OtherOn gs label cs
other_on gs label [] under up over rise h = tt
other_on gs label (c ∷ cs) under up over rise h =
    ((λ agree. h.0 (rising_same c.0 label rise.0 up (both_in gs c.0 label over.0 under agree))), other_on gs label cs under up over.1 rise.1 h.1)

pub apart_on : (gs : List ℕ) (cs : List (List ℕ × ℕ)) → AreOver gs cs → HaveRising cs → AreApart cs → ApartOn gs cs
apart_on gs [] over rise h = tt
apart_on gs (c ∷ cs) over rise h = (other_on gs c.0 cs over.0 rise.0 over.1 rise.1 h.0, apart_on gs cs over.1 rise.1 h.1)

-- on one side of a group
agree_more : (g : ℕ) (gs l m : List ℕ) → is_among l g ≡ is_among m g → ((r : ℕ) → is_among gs r ≡ true → is_among l r ≡ is_among m r) → (r : ℕ) → is_among (g ∷ gs) r ≡ true → is_among l r ≡ is_among m r
agree_more g gs l m here agree r m_ = one (g == r) refl m_
  where
    one : (b : Bool) → (g == r) ≡ b → (b || is_among gs r) ≡ true → is_among l r ≡ is_among m r
    one true is e = let at = same g r is in ap (is_among l) (sym at) ∙ here ∙ ap (is_among m) at
    one false is e = agree r e

module _ (g : ℕ) (gs : List ℕ) (test : List ℕ → Bool) (alike : (l m : List ℕ) → test l ≡ true → test m ≡ true → is_among l g ≡ is_among m g) where
  other_side : (label : List ℕ) (cs : List (List ℕ × ℕ)) → test label ≡ true → OtherOn (g ∷ gs) label cs → OtherOn gs label (filter (λ c. test c.0) cs)
  other_side label [] mine h = tt
  other_side label (c ∷ cs) mine h = one (test c.0) refl (other_side label cs mine h.1)
    where
      one : (b : Bool) → test c.0 ≡ b → OtherOn gs label (filter (λ c. test c.0) cs) → OtherOn gs label (cond b (c ∷ filter (λ c. test c.0) cs) (filter (λ c. test c.0) cs))
      one true is rest = ((λ agree. h.0 (agree_more g gs c.0 label (alike c.0 label is mine) agree)), rest)
      one false is rest = rest

  apart_side : (cs : List (List ℕ × ℕ)) → ApartOn (g ∷ gs) cs → ApartOn gs (filter (λ c. test c.0) cs)
  apart_side [] h = tt
  apart_side (c ∷ cs) h = one (test c.0) refl (apart_side cs h.1)
    where
      one : (b : Bool) → test c.0 ≡ b → ApartOn gs (filter (λ c. test c.0) cs) → ApartOn gs (cond b (c ∷ filter (λ c. test c.0) cs) (filter (λ c. test c.0) cs))
      one true is rest = (other_side c.0 cs is h.0, rest)
      one false is rest = rest

both_not : (a b : Bool) → not a ≡ true → not b ≡ true → a ≡ b
both_not true b h k = absurd (false≢true h)
both_not false true h k = absurd (false≢true k)
both_not false false h k = refl

abbrev pub ids_of : List (List ℕ × ℕ) → List ℕ
ids_of cs = map (λ (c : List ℕ × ℕ). c.1) cs

ids_vertex : (g : ℕ) (a b : Shape) → ids_below (vertex g a b) ≡ ids_below a ++ ids_below b
ids_vertex g Nothing Nothing = refl
ids_vertex g Nothing (Child id) = refl
ids_vertex g Nothing (Group r s t) = refl
ids_vertex g (Child id) b = refl
ids_vertex g (Group r s t) b = refl

map_both : (cs ds : List (List ℕ × ℕ)) → ids_of (cs ++ ds) ≡ ids_of cs ++ ids_of ds
map_both [] ds = refl
map_both (c ∷ cs) ds = ap (λ (l : List ℕ). c.1 ∷ l) (map_both cs ds)

pub all_there : (gs : List ℕ) (cs : List (List ℕ × ℕ)) → ApartOn gs cs → IsPermutation (ids_of cs) (ids_below (built gs cs))
all_there [] [] h = IsPermutation-refl []
all_there [] (c ∷ []) h = IsPermutation-refl (c.1 ∷ [])
all_there [] (c ∷ d ∷ cs) h = absurd (h.0.0 (λ r m. absurd (false≢true m)))
all_there (g ∷ gs) cs h =
    let left = all_there gs (having g cs) (apart_side g gs (λ l. is_among l g) (λ l m a b. a ∙ sym b) cs h) in
    let right = all_there gs (lacking g cs) (apart_side g gs (λ l. not (is_among l g)) (λ l m a b. both_not (is_among l g) (is_among m g) a b) cs h) in
    let split = IsPermutation-map (λ (c : List ℕ × ℕ). c.1) cs (having g cs ++ lacking g cs) (IsPermutation-filter_both (λ (c : List ℕ × ℕ). is_among c.0 g) (λ (c : List ℕ × ℕ). not (is_among c.0 g)) (λ _. refl) cs) in
    IsPermutation-trans (ids_of cs) (ids_of (having g cs) ++ ids_of (lacking g cs)) (ids_below (built (g ∷ gs) cs))
    (subst (IsPermutation (ids_of cs)) (map_both (having g cs) (lacking g cs)) split)
    (subst (IsPermutation (ids_of (having g cs) ++ ids_of (lacking g cs))) (sym (ids_vertex g (built gs (having g cs)) (built gs (lacking g cs))))
    (IsPermutation-append (ids_of (having g cs)) (ids_below (built gs (having g cs))) (ids_of (lacking g cs)) (ids_below (built gs (lacking g cs))) left right))

-- numbers that fall
abbrev pub AreFallingFrom : ℕ → List ℕ → Type 0
AreFallingFrom top [] = Unit {0}
AreFallingFrom top (n ∷ ns) = (n < top) × AreFallingFrom n ns

among_below : (top : ℕ) (ns : List ℕ) → AreFallingFrom top ns → (r : ℕ) → is_among ns r ≡ true → r < top
among_below top [] f r m = absurd (false≢true m)
among_below top (n ∷ ns) f r m = one (n == r) refl m (among_below n ns f.1 r)
  where
    one : (b : Bool) → (n == r) ≡ b → (b || is_among ns r) ≡ true → (is_among ns r ≡ true → r < n) → r < top
    one true is e rest = let at = same n r is in let low = f.0 in omega arith
    one false is e rest = let low = f.0 in let high = rest e in omega arith

rising_last : (ns : List ℕ) (x : ℕ) → IsRising ns → ((r : ℕ) → is_among ns r ≡ true → r < x) → IsRising (ns ++ x ∷ [])
rising_last [] x up low = ((λ r m. absurd (false≢true m)), tt)
rising_last (n ∷ ns) x up low =
    ((λ r m. one r (is_among ns r) refl (sym (list_any-append (λ (k : ℕ). k == r) ns (x ∷ [])) ∙ m)), rising_last ns x up.1 (λ r m. low r (right (n == r) (is_among ns r) m)))
  where
    right : (a b : Bool) → b ≡ true → (a || b) ≡ true
    right true b h = refl
    right false b h = h

    last : (r : ℕ) → (b : Bool) → (x == r) ≡ b → (b || false) ≡ true → n < r
    last r true is e = let at = same x r is in let less : n < x = low n (ap (λ (b : Bool). b || is_among ns n) (eq-eqb n n refl)) in omega arith
    last r false is e = absurd (false≢true e)

    one : (r : ℕ) (b : Bool) → is_among ns r ≡ b → (is_among ns r || (x == r || false)) ≡ true → n < r
    one r true is e = up.0 r is
    one r false is e = last r (x == r) refl (sym (ap (λ (b : Bool). b || (x == r || false)) is) ∙ e)

pub rising_reversed : (top : ℕ) (ns : List ℕ) → AreFallingFrom top ns → IsRising (reverse ns)
rising_reversed top [] f = tt
rising_reversed top (n ∷ ns) f =
    subst IsRising (sym (reverse-append (n ∷ []) ns))
    (rising_last (reverse ns) n (rising_reversed n ns f.1) (λ r m. among_below n ns f.1 r (list_any-IsPermutation (λ (k : ℕ). k == r) ns (reverse ns) (IsPermutation-reverse ns) ∙ m)))

-- numbers in rising order that are those of a falling list
pub in_order : (top : ℕ) (ns sorted : List ℕ) → AreFallingFrom top ns → IsPermutation ns sorted → IsRising sorted → sorted ≡ reverse ns
in_order top ns sorted f perm up =
    rising_same sorted (reverse ns) up (rising_reversed top ns f)
    (λ r. sym (list_any-IsPermutation (λ (k : ℕ). k == r) ns sorted perm) ∙ list_any-IsPermutation (λ (k : ℕ). k == r) ns (reverse ns) (IsPermutation-reverse ns))

distinct_falling : (top : ℕ) (ns : List ℕ) → AreFallingFrom top ns → IsDistinct eqb ns
unfolding IsDistinct
distinct_falling top [] f = tt
distinct_falling top (n ∷ ns) f = (below n n ns (omega arith) f.1, distinct_falling n ns f.1)
  where
    below : (n top : ℕ) (ns : List ℕ) → top ≤ n → AreFallingFrom top ns → AllByRecursion (λ y. eqb n y ≡ false) ns
    below n top [] le f = tt
    below n top (m ∷ ms) le f = (let low = f.0 in let d : n ≢ m = λ e. omega arith in differs n m d, below n m ms (let low = f.0 in omega arith) f.1)

flips : (x y : ℕ) → eqb x y ≡ eqb y x
flips x y = grind (arith, nat_tests)

-- what a sort makes of numbers that fall
pub sorted_rises : (top : ℕ) (ns sorted : List ℕ) → AreFallingFrom top ns → IsPermutation ns sorted → IsSorted nat_cmp sorted → IsRising sorted
sorted_rises top ns sorted f perm up =
    rises sorted (IsStrictlyIncreasing-from_distinct sorted (IsNonDecreasingBy-from_sort (λ x. x) sorted up) (IsDistinct-IsPermutation eqb flips ns sorted perm (distinct_falling top ns f)))
