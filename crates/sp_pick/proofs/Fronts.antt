-- The versions that wait in front of those that are out: live, not out themselves, and under none that is not out.
use Rattle.std.proofs.Common.{◌≡◌, ℕ, zero, suc, ◌+◌, ◌<◌, Bool, true, false, not, cond, ◌==◌, ◌&&◌, ◌||◌, Option, Some, None, refl, sym, ap, subst}
use Rattle.std.proofs.Common.{◌∙◌, arith}
use Rattle.std.specs.Cmp.{IsStrictWeakOrder}
use Rattle.std.proofs.lemmas.Bool.{and_parts, and_from, or_right, both_ways, not-true, not_from_false, eqb-true, ne_eqb, false≢true}
use Rattle.sp_group.specs.Family.{is_parent}
use Rattle.sp_pick.proofs.Taken.{with_out}

-- a test as a count
abbrev pub once : Bool → ℕ
once b = cond b 1 0

-- whether the parent, where there is one, is out
abbrev pub parent_out : (ℕ → Bool) → Option ℕ → Bool
parent_out out None = true
parent_out out (Some p) = out p

module _ (live : ℕ → Bool) (parent : ℕ → Option ℕ) where
  -- whether it waits in front
  abbrev pub is_front : (ℕ → Bool) → ℕ → Bool
  is_front out id = live id && (not (out id) && parent_out out (parent id))

  -- what is out is live, and its parent is out
  pub record AreOut (out : ℕ → Bool) : Type 0 where
    pub there : (id : ℕ) → out id ≡ true → live id ≡ true
    pub above : (id : ℕ) → out id ≡ true → parent_out out (parent id) ≡ true

  -- the parent of a live version is live, and its id is less
  pub record AreHung : Type 0 where
    pub there : (id p : ℕ) → live id ≡ true → parent id ≡ Some p → live p ≡ true
    pub less : (id p : ℕ) → live id ≡ true → parent id ≡ Some p → p < id

  pub record IsFront (out : ℕ → Bool) (id : ℕ) : Type 0 where
    pub there : live id ≡ true
    pub waits : out id ≡ false
    pub above : parent_out out (parent id) ≡ true

  pub front_is : (out : ℕ → Bool) (id : ℕ) → is_front out id ≡ true → IsFront out id
  front_is out id is =
      let a = and_parts (live id) (not (out id) && parent_out out (parent id)) is in
      let b = and_parts (not (out id)) (parent_out out (parent id)) a.1 in
      record { there = a.0; waits = not-true (out id) b.0; above = b.1 }

  is_so : (out : ℕ → Bool) (id : ℕ) → live id ≡ true → out id ≡ false → parent_out out (parent id) ≡ true → is_front out id ≡ true
  is_so out id there waits above =
      and_from (live id) (not (out id) && parent_out out (parent id)) there
      (and_from (not (out id)) (parent_out out (parent id)) (not_from_false (out id) waits) above)

  pub none_out : AreOut (λ _. false)
  none_out = record { there = λ id is. absurd (false≢true is); above = λ id is. absurd (false≢true is) }

  -- what holds of those in front, and of each child of one that is not out of which it holds, holds of all that are not out
  pub all_under : (out : ℕ → Bool) (Q : ℕ → Type 0) → AreHung → ((id : ℕ) → is_front out id ≡ true → Q id)
      → ((id p : ℕ) → live id ≡ true → parent id ≡ Some p → Q p → Q id)
      → (n id : ℕ) → id < n → live id ≡ true → out id ≡ false → Q id
  all_under out Q hung front down zero id within there waits = absurd (omega arith)
  all_under out Q hung front down (suc n) id within there waits = one (parent id) refl
      (λ p low l o. all_under out Q hung front down n p (omega arith) l o)
    where
      one : (o : Option ℕ) → parent id ≡ o → ((p : ℕ) → p < id → live p ≡ true → out p ≡ false → Q p) → Q id
      one None up above = front id (is_so out id there waits (ap (parent_out out) up))
      one (Some p) up above =
          two (out p) refl
        where
          two : (b : Bool) → out p ≡ b → Q id
          two true is = front id (is_so out id there waits (ap (parent_out out) up ∙ is))
          two false is = down id p there up (above p (hung.less id p there up) (hung.there id p there up) is)

  -- none that waits comes before what is not behind those in front
  pub none_before : (lt : ℕ → ℕ → Bool) → IsStrictWeakOrder lt → AreHung → ((id p : ℕ) → live id ≡ true → parent id ≡ Some p → lt p id ≡ true)
      → (out : ℕ → Bool) (r : ℕ) → ((id : ℕ) → is_front out id ≡ true → lt id r ≡ false) → (id : ℕ) → live id ≡ true → out id ≡ false → lt id r
      ≡ false
  none_before lt o hung first out r front id =
      all_under out (λ q. lt q r ≡ false) hung front (λ q p there up low. o.chain q p r (o.one_way p q (first q p there up)) low) (suc id) id
      (omega arith)

  -- where none is in front, all are out
  pub all_out : AreHung → (out : ℕ → Bool) → ((id : ℕ) → is_front out id ≡ false) → (id : ℕ) → live id ≡ true → out id ≡ false → ⊥
  all_out hung out none id =
      all_under out (λ q. ⊥) hung (λ q is. both_ways (is_front out q) (none q) is) (λ q p there up no. no) (suc id) id (omega arith)

  module _ (out : ℕ → Bool) (r : ℕ) (hung : AreHung) (are : AreOut out) (front : IsFront out r) where
    out_more : (q : ℕ) → out q ≡ true → with_out r out q ≡ true
    out_more q is = or_right (q == r) (out q) is

    parent_more : (o : Option ℕ) → parent_out out o ≡ true → parent_out (with_out r out) o ≡ true
    parent_more None is = refl
    parent_more (Some p) is = out_more p is

    -- those in front may go out
    pub more_out : AreOut (with_out r out)
    more_out = record {
      there = λ id is. one_live id (id == r) refl is;
      above = λ id is. one_above id (id == r) refl is;
    }
      where
        one_live : (id : ℕ) (b : Bool) → (id == r) ≡ b → (b || out id) ≡ true → live id ≡ true
        one_live id true is there = subst (λ q. live q ≡ true) (sym (eqb-true id r is)) front.there
        one_live id false is there = are.there id there

        one_above : (id : ℕ) (b : Bool) → (id == r) ≡ b → (b || out id) ≡ true → parent_out (with_out r out) (parent id) ≡ true
        one_above id true is there = parent_more (parent id) (subst (λ q. parent_out out (parent q) ≡ true) (sym (eqb-true id r is)) front.above)
        one_above id false is there = parent_more (parent id) (are.above id there)

    -- who is in front then: in its place its children
    pub front_more : (id : ℕ) → once (is_front (with_out r out) id) + once (id == r)
        ≡ once (is_front out id) + once (live id && is_parent r (parent id))
    front_more id = one (id == r) refl (live id) refl (parent id) refl
      where
        own : (x y z : Bool) → x ≡ false → y ≡ true → z ≡ false → 1 ≡ once (not x && y) + once z
        own x y z a b c = sym (λ i. once (not (a i) && b i) + once (c i))

        child : (x y z : Bool) → x ≡ false → y ≡ false → z ≡ true → once (not x && (z || y)) + 0 ≡ once (not x && y) + once z
        child x y z a b c = (λ i. once (not (a i) && (c i || b i)) + 0) ∙ sym (λ i. once (not (a i) && b i) + once (c i))

        other : (x y z : Bool) → z ≡ false → once (not x && (z || y)) + 0 ≡ once (not x && y) + once z
        other x y z c = (λ i. once (not x && (c i || y)) + 0) ∙ sym (λ i. once (not x && y) + once (c i))

        not_above : (o : Option ℕ) → parent r ≡ o → is_parent r o ≡ false
        not_above None up = refl
        not_above (Some p) up = let less = hung.less r p front.there up in ne_eqb p r (λ is. absurd (omega arith))

        waits : (p : ℕ) → parent id ≡ Some p → p ≡ r → (b : Bool) → out id ≡ b → out id ≡ false
        waits p up is true gone =
            absurd (both_ways (out r) front.waits (subst (λ q. out q ≡ true) is (sym (ap (parent_out out) up) ∙ are.above id gone)))
        waits p up is false gone = gone

        under : (p : ℕ) → parent id ≡ Some p → (b : Bool) → (p == r) ≡ b → once (not (out id) && (p == r || out p)) + 0
            ≡ once (not (out id) && out p) + once (p == r)
        under p up true is =
            let same = eqb-true p r is in
            child (out id) (out p) (p == r) (waits p up same (out id) refl) (subst (λ q. out q ≡ false) (sym same) front.waits) is
        under p up false is = other (out id) (out p) (p == r) is

        one : (b : Bool) → (id == r) ≡ b → (l : Bool) → live id ≡ l → (o : Option ℕ) → parent id ≡ o
            → once (l && (not (b || out id) && parent_out (with_out r out) o)) + once b
            ≡ once (l && (not (out id) && parent_out out o)) + once (l && is_parent r o)
        one true is false there o up = absurd (both_ways (live r) (subst (λ q. live q ≡ false) (eqb-true id r is) there) front.there)
        one true is true there o up =
            let same = eqb-true id r is in
            own (out id) (parent_out out o) (is_parent r o) (subst (λ q. out q ≡ false) (sym same) front.waits)
            (subst (λ q. parent_out out q ≡ true) up (subst (λ q. parent_out out (parent q) ≡ true) (sym same) front.above))
            (not_above o (ap parent (sym same) ∙ up))
        one false is false there o up = refl
        one false is true there None up = refl
        one false is true there (Some p) up = under p up (p == r) refl
