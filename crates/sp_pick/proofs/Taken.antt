-- What has been taken of a list that is in order, and what is left of it.
use Rattle.std.proofs.Common.{◌≡◌, ℕ, zero, suc, ◌+◌, ◌-◌, ◌<◌, ◌≤◌, Bool, true, false, not, cond, ◌==◌, ◌||◌, List, [], ◌∷◌, ◌++◌, length, take}
use Rattle.std.proofs.Common.{min, refl, sym, ap, subst, ◌∙◌, arith, inl, inr, replicate, filter, append_assoc}
use Rattle.std.specs.Cmp.{IsStrictWeakOrder}
use Rattle.std.specs.List.{AllByRecursion}
use Rattle.std.proofs.lemmas.Bool.{cases_lt, cases_Bool, or_left, or_right, or_from, eqb-true, eqb-false, eq-eqb, both_ways}
use Rattle.std.proofs.lemmas.List.{take_all, take-replicate, length-append, length-take, length-replicate, append-nil, nil_from_length}
use Rattle.std.proofs.lemmas.List.Filters.{length-filter_both}
use Rattle.std.proofs.lemmas.List.Elements.{filter-append}
use Rattle.sp_pick.proofs.Ordered.{AreInOrder, NoneBefore}

-- whether an element is that number
abbrev pub is_it : ℕ → ℕ → Bool
is_it r id = id == r

abbrev is_other : ℕ → ℕ → Bool
is_other r id = not (id == r)

-- some number is out, and the others are as before
abbrev pub with_out : ℕ → (ℕ → Bool) → ℕ → Bool
with_out r out id = id == r || out id

pub take-append : (k : ℕ) (xs ys : List ℕ) → take k (xs ++ ys) ≡ take k xs ++ take (k - length xs) ys
take-append zero [] ys = refl
take-append zero (x ∷ xs) ys = ap (λ n. take n ys) (sym (less (length (x ∷ xs))))
  where
    less : (n : ℕ) → 0 - n ≡ 0
    less n = omega arith
take-append (suc k) [] ys = ap (λ n. take n ys) (none (suc k))
  where
    none : (n : ℕ) → n ≡ n - 0
    none n = omega arith
take-append (suc k) (x ∷ xs) ys = ap (λ (l : List ℕ). x ∷ l) (take-append k xs ys ∙ ap (λ n. take k xs ++ take n ys) (less k (length xs)))
  where
    less : (k n : ℕ) → k - n ≡ suc k - suc n
    less k n = omega arith

take_repeated : (m n y : ℕ) → take m (replicate n y) ≡ replicate (min n m) y
take_repeated m n y = elim (cases_lt m n) [ inl low ↦ few low | inr high ↦ many high ]
  where
    few : m < n → take m (replicate n y) ≡ replicate (min n m) y
    few low = let same : m ≡ min n m = omega arith in take-replicate m n y (omega arith) ∙ ap (λ k. replicate k y) same

    many : n ≤ m → take m (replicate n y) ≡ replicate (min n m) y
    many high =
        let same : n ≡ min n m = omega arith in
        let long = length-replicate n y in
        take_all m (replicate n y) (omega arith) ∙ ap (λ k. replicate k y) same

-- those that are the number, so many times
repeated : (r : ℕ) (xs : List ℕ) → filter (is_it r) xs ≡ replicate (length (filter (is_it r) xs)) r
repeated r [] = refl
repeated r (x ∷ xs) = one (repeated r xs) (x == r) refl
  where
    one : filter (is_it r) xs ≡ replicate (length (filter (is_it r) xs)) r
        → (b : Bool) → (x == r) ≡ b → cond b (x ∷ filter (is_it r) xs) (filter (is_it r) xs)
        ≡ replicate (length (cond b (x ∷ filter (is_it r) xs) (filter (is_it r) xs))) r
    one rest true is = λ i. eqb-true x r is i ∷ rest i
    one rest false is = rest

module _ (lt : ℕ → ℕ → Bool) (o : IsStrictWeakOrder lt) (same : (a b : ℕ) → lt a b ≡ false → lt b a ≡ false → a ≡ b) where
  -- none of those is the number that it comes before
  none_is : (r x : ℕ) (xs : List ℕ) → lt r x ≡ true → NoneBefore lt x xs → (filter (is_it r) xs ≡ []) × (filter (is_other r) xs ≡ xs)
  none_is r x [] less none = (refl, refl)
  none_is r x (y ∷ ys) less none = one (y == r) refl (none_is r x ys less none.1)
    where
      one : (b : Bool) → (y == r) ≡ b → (filter (is_it r) ys ≡ []) × (filter (is_other r) ys ≡ ys)
          → (cond b (y ∷ filter (is_it r) ys) (filter (is_it r) ys) ≡ [])
          × (cond (not b) (y ∷ filter (is_other r) ys) (filter (is_other r) ys) ≡ y ∷ ys)
      one true is rest = absurd (both_ways (lt r x) (subst (λ z. lt z x ≡ false) (eqb-true y r is) none.0) less)
      one false is rest = (rest.0, ap (λ (l : List ℕ). y ∷ l) rest.1)

  -- those that are it stand in front, where none comes before it
  in_front : (r : ℕ) (xs : List ℕ) → AreInOrder lt xs → NoneBefore lt r xs → xs ≡ filter (is_it r) xs ++ filter (is_other r) xs
  in_front r [] order none = refl
  in_front r (x ∷ xs) order none = one (x == r) refl (in_front r xs order.1 none.1)
    where
      one : (b : Bool) → (x == r) ≡ b → xs ≡ filter (is_it r) xs ++ filter (is_other r) xs
          → x ∷ xs ≡ cond b (x ∷ filter (is_it r) xs) (filter (is_it r) xs) ++ cond (not b) (x ∷ filter (is_other r) xs) (filter (is_other r) xs)
      one true is rest = ap (λ (l : List ℕ). x ∷ l) rest
      one false is rest = elim (cases_Bool (lt r x)) [
        | inl less ↦ (let n = none_is r x xs less order.0 in sym (λ i. n.0 i ++ x ∷ n.1 i))
        | inr high ↦ absurd (eqb-false x r is (same x r none.0 high))
      ]

-- a list that was filled up to a length
pub filled : (old new : List ℕ) (n long times r : ℕ) → long ≡ length old → n ≡ long + times → new ≡ take n old ++ replicate (n - long) r → new
    ≡ old ++ replicate times r
filled old new n long times r whole is made =
    let more : n - long ≡ times = omega arith in
    made ∙ ap (λ (l : List ℕ). l ++ replicate (n - long) r) (take_all n old (omega arith)) ∙ ap (λ m. old ++ replicate m r) more

-- so many were taken of the first k of these, and so many are left to take: those that are out, and no other
pub record AreTaken (out : ℕ → Bool) (order : List ℕ) (k left : ℕ) (taken : List ℕ) : Type 0 where
  pub done : List ℕ
  pub rest : List ℕ
  pub parts : order ≡ done ++ rest
  pub gone : AllByRecursion (λ id. out id ≡ true) done
  pub wait : AllByRecursion (λ id. out id ≡ false) rest
  pub first : taken ≡ take k done
  pub most : left + length taken ≡ min (length order) k

pub none_taken : (order : List ℕ) (k left : ℕ) → left ≡ min (length order) k → AreTaken (λ _. false) order k left []
none_taken order k left is = record {
  done = [];
  rest = order;
  parts = refl;
  gone = tt;
  wait = all order;
  first = sym (take_all k [] (omega arith));
  most = omega arith;
}
  where
    all : (ids : List ℕ) → AllByRecursion (λ id. false ≡ false) ids
    all [] = tt
    all (id ∷ ids) = (refl, all ids)

-- those that are out, and those that are not, after a number more is out
gone_more : (r : ℕ) (out : ℕ → Bool) (n : ℕ) (done : List ℕ) → AllByRecursion (λ id. out id ≡ true) done
    → AllByRecursion (λ id. with_out r out id ≡ true) (done ++ replicate n r)
gone_more r out zero [] gone = tt
gone_more r out (suc n) [] gone = (or_left (r == r) (out r) (eq-eqb r r refl), gone_more r out n [] gone)
gone_more r out n (id ∷ ids) gone = (or_right (id == r) (out id) gone.0, gone_more r out n ids gone.1)

wait_less : (r : ℕ) (out : ℕ → Bool) (rest : List ℕ) → AllByRecursion (λ id. out id ≡ false) rest
    → AllByRecursion (λ id. with_out r out id ≡ false) (filter (is_other r) rest)
wait_less r out [] wait = tt
wait_less r out (id ∷ ids) wait = one (wait_less r out ids wait.1) (id == r) refl
  where
    one : AllByRecursion (λ id. with_out r out id ≡ false) (filter (is_other r) ids)
        → (b : Bool) → (id == r) ≡ b
        → AllByRecursion (λ id. with_out r out id ≡ false) (cond (not b) (id ∷ filter (is_other r) ids) (filter (is_other r) ids))
    one rest true is = rest
    one rest false is = (or_from (id == r) (out id) is wait.0, rest)

-- none that are out are the number, which is not
none_out : (r : ℕ) (out : ℕ → Bool) (done : List ℕ) → out r ≡ false → AllByRecursion (λ id. out id ≡ true) done → filter (is_it r) done ≡ []
none_out r out [] not_out gone = refl
none_out r out (id ∷ ids) not_out gone = one (none_out r out ids not_out gone.1) (id == r) refl
  where
    one : filter (is_it r) ids ≡ [] → (b : Bool) → (id == r) ≡ b → cond b (id ∷ filter (is_it r) ids) (filter (is_it r) ids) ≡ []
    one rest true is = absurd (both_ways (out r) not_out (subst (λ n. out n ≡ true) (eqb-true id r is) gone.0))
    one rest false is = rest

-- the number is taken as often as it stands there, or as are left to take
pub more_taken : (lt : ℕ → ℕ → Bool) → IsStrictWeakOrder lt → ((a b : ℕ) → lt a b ≡ false → lt b a ≡ false → a ≡ b)
    → (out : ℕ → Bool) (order : List ℕ) (k left : ℕ) (taken : List ℕ) (r times : ℕ) (h : AreTaken out order k left taken) → AreInOrder lt h.rest
    → NoneBefore lt r h.rest → out r ≡ false
    → times ≡ min (length (filter (is_it r) order)) left → AreTaken (with_out r out) order k (left - times) (taken ++ replicate times r)
more_taken lt o same out order k left taken r times h in_order none not_out is =
    let all = length (filter (is_it r) h.rest) in
    let many : length (filter (is_it r) order) ≡ length (filter (is_it r) h.rest) =
    ap (λ (l : List ℕ). length (filter (is_it r) l)) h.parts ∙ ap length (filter-append (is_it r) h.done h.rest)
    ∙ ap (λ (l : List ℕ). length (l ++ filter (is_it r) h.rest)) (none_out r out h.done not_out h.gone) in
    let long = ap length h.parts ∙ length-append h.done h.rest in
    let some = ap length h.first ∙ length-take k h.done in
    let most = h.most in
    let within = length-filter_both (is_it r) (is_other r) (λ x. refl) h.rest in
    let fewer : times ≡ min (length (filter (is_it r) h.rest)) (k - length h.done) = omega arith in
    let more = length-append taken (replicate times r) in
    let times_long = length-replicate times r in
    record {
      done = h.done ++ replicate (length (filter (is_it r) h.rest)) r;
      rest = filter (is_other r) h.rest;
      parts =
          h.parts ∙ ap (λ (l : List ℕ). h.done ++ l)
          (in_front lt o same r h.rest in_order none ∙ ap (λ (l : List ℕ). l ++ filter (is_other r) h.rest) (repeated r h.rest))
          ∙ sym (append_assoc h.done (replicate (length (filter (is_it r) h.rest)) r) (filter (is_other r) h.rest));
      gone = gone_more r out (length (filter (is_it r) h.rest)) h.done h.gone;
      wait = wait_less r out h.rest h.wait;
      first =
          ap (λ (l : List ℕ). l ++ replicate times r) h.first
          ∙ ap (λ n. take k h.done ++ replicate n r) fewer
          ∙ ap (λ (l : List ℕ). take k h.done ++ l) (sym (take_repeated (k - length h.done) (length (filter (is_it r) h.rest)) r))
          ∙ sym (take-append k h.done (replicate (length (filter (is_it r) h.rest)) r));
      most = omega arith;
    }

-- at the end: nothing is left to take, or nothing to take it from
pub taken_whole : (out : ℕ → Bool) (order : List ℕ) (k : ℕ) (taken : List ℕ) → AreTaken out order k 0 taken → taken ≡ take k order
taken_whole out order k taken h =
    h.first ∙ sym (ap (take k) h.parts ∙ take-append k h.done h.rest ∙ ap (λ (l : List ℕ). take k h.done ++ l) none ∙ append-nil (take k h.done))
  where
    none : take (k - length h.done) h.rest ≡ []
    none =
        let long = ap length h.parts ∙ length-append h.done h.rest in
        let some = ap length h.first ∙ length-take k h.done in
        let most = h.most in
        let all = length-take (k - length h.done) h.rest in
        nil_from_length (take (k - length h.done) h.rest) (omega arith)

pub all_taken : (out : ℕ → Bool) (order : List ℕ) (k left : ℕ) (taken : List ℕ) (h : AreTaken out order k left taken) → h.rest ≡ [] → taken
    ≡ take k order
all_taken out order k left taken h none = h.first ∙ sym (ap (take k) (h.parts ∙ ap (λ (l : List ℕ). h.done ++ l) none ∙ append-nil h.done))
