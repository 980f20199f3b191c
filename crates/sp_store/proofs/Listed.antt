-- The entries of places, after each thing that is done to a store.
use Rattle.std.proofs.Common.{◌≡◌, ◌≢◌, ℕ, zero, suc, ◌<◌, false, ◌==◌, List, [], ◌∷◌, length, get_or, remove, Option, Some, None, refl, sym, ap, subst, ◌∙◌, arith, eq-eqb}
use Rattle.std.specs.Prelude.{IsSome}
use Rattle.std.proofs.lemmas.Bool.{false≢true}
use Rattle.std.proofs.lemmas.Bool.Decides.{nat_tests}
use Rattle.sp_store.specs.declared.place.Place.{Place}
use Rattle.sp_store.specs.Stored.{found, left, written, FallFrom}
use Rattle.sp_store.specs.Places.{Falls, Lacks, IsFree, AreKeyed, listed, paired}
use Rattle.sp_store.proofs.Searched.{all_below}

differs : (m n : ℕ) → m ≢ n → (m == n) ≡ false
differs m n h = grind (arith, nat_tests)

pub falls_left : (top : ℕ) (ps : List Place) (i : ℕ) → Falls top ps → i < length ps → Falls top (remove ps i)
falls_left top [] i h within = absurd (omega arith)
falls_left top (p ∷ ps) zero h within = lower top p.id ps h.0 h.1
  where
    lower : (top id : ℕ) (ps : List Place) → id < top → Falls id ps → Falls top ps
    lower top id [] less h = tt
    lower top id (q ∷ qs) less h = (let a : q.id < id = h.0 in omega arith, h.1)
falls_left top (p ∷ ps) (suc i) h within = (h.0, falls_left p.id ps i h.1 (omega arith))

pub length_left : {X : Type 0} (xs : List X) (i : ℕ) → i < length xs → suc (length (remove xs i)) ≡ length xs
length_left [] i h = absurd (omega arith)
length_left (x ∷ xs) zero h = refl
length_left (x ∷ xs) (suc i) h = ap suc (length_left xs i (omega arith))

free_left : (key : ℕ) (ps : List Place) (i : ℕ) → IsFree key ps → i < length ps → IsFree key (remove ps i)
free_left key [] i h within = absurd (omega arith)
free_left key (p ∷ ps) zero h within = h.1
free_left key (p ∷ ps) (suc i) h within = (h.0, free_left key ps i h.1 (omega arith))

free_at : (key : ℕ) (ps : List Place) (i : ℕ) (d : Place) → IsFree key ps → i < length ps → (get_or ps i d).key ≢ key
free_at key [] i d h within = absurd (omega arith)
free_at key (p ∷ ps) zero d h within = h.0
free_at key (p ∷ ps) (suc i) d h within = free_at key ps i d h.1 (omega arith)

module _ {V : Type 0} where
  some_not_none : (o : Option V) → IsSome o → o ≡ None → ⊥
  some_not_none None h e = false≢true h
  some_not_none (Some v) h e = absurd (cc)

  -- what only the key's value tells apart
  pub Elsewhere : ℕ → (ℕ → Option V) → (ℕ → Option V) → Type 0
  Elsewhere key at now = (other : ℕ) → other ≢ key → now other ≡ at other

  fall_first : (top id : ℕ) (o : Option V) (es : List (ℕ × V)) → IsSome o → id < top → FallFrom id es → FallFrom top (paired id o es)
  fall_first top id None es h less rest = absurd (false≢true h)
  fall_first top id (Some v) es h less rest = (less, rest)

  found_first : (id : ℕ) (o : Option V) (es : List (ℕ × V)) → IsSome o → found (paired id o es) id ≡ o
  found_first id None es h = absurd (false≢true h)
  found_first id (Some v) es h = rw (eq-eqb id id refl) refl

  found_later : (p id : ℕ) (o : Option V) (es : List (ℕ × V)) → p ≢ id → found (paired p o es) id ≡ found es id
  found_later p id None es h = refl
  found_later p id (Some v) es h = rw (differs p id h) refl

  left_first : (id : ℕ) (o : Option V) (es : List (ℕ × V)) → IsSome o → left (paired id o es) id ≡ es
  left_first id None es h = absurd (false≢true h)
  left_first id (Some v) es h = rw (eq-eqb id id refl) refl

  left_later : (p id : ℕ) (o : Option V) (es : List (ℕ × V)) → p ≢ id → left (paired p o es) id ≡ paired p o (left es id)
  left_later p id None es h = refl
  left_later p id (Some v) es h = rw (differs p id h) refl

  written_first : (id : ℕ) (o : Option V) (es : List (ℕ × V)) (w : V) → IsSome o → written (paired id o es) id w ≡ (id, w) ∷ es
  written_first id None es w h = absurd (false≢true h)
  written_first id (Some v) es w h = rw (eq-eqb id id refl) refl

  written_later : (p id : ℕ) (o : Option V) (es : List (ℕ × V)) (w : V) → p ≢ id → written (paired p o es) id w ≡ paired p o (written es id w)
  written_later p id None es w h = refl
  written_later p id (Some v) es w h = rw (differs p id h) refl

  module _ (at : ℕ → Option V) where
    pub none_found : (ps : List Place) (id : ℕ) → Lacks ps id → found (listed at ps) id ≡ None
    none_found [] id h = refl
    none_found (p ∷ ps) id h = found_later p.id id (at p.key) (listed at ps) h.0 ∙ none_found ps id h.1

    pub none_left : (ps : List Place) (id : ℕ) → Lacks ps id → left (listed at ps) id ≡ listed at ps
    none_left [] id h = refl
    none_left (p ∷ ps) id h = left_later p.id id (at p.key) (listed at ps) h.0 ∙ ap (paired p.id (at p.key)) (none_left ps id h.1)

    pub key_there : (ps : List Place) (i : ℕ) (d : Place) → AreKeyed at ps → i < length ps → IsSome (at (get_or ps i d).key)
    key_there [] i d h within = absurd (omega arith)
    key_there (p ∷ ps) zero d h within = h.0
    key_there (p ∷ ps) (suc i) d h within = key_there ps i d h.2 (omega arith)

    pub found_there : (top : ℕ) (ps : List Place) (i : ℕ) (d : Place) → Falls top ps → AreKeyed at ps → i < length ps → found (listed at ps) (get_or ps i d).id ≡ at (get_or ps i d).key
    found_there top [] i d h k within = absurd (omega arith)
    found_there top (p ∷ ps) zero d h k within = found_first p.id (at p.key) (listed at ps) k.0
    found_there top (p ∷ ps) (suc i) d h k within =
        let below : (get_or ps i d).id < p.id = all_below p.id ps h.1 i d (omega arith) in
        found_later p.id (get_or ps i d).id (at p.key) (listed at ps) (λ e. omega arith) ∙ found_there p.id ps i d h.1 k.2 (omega arith)

    pub length_listed : (ps : List Place) → AreKeyed at ps → length (listed at ps) ≡ length ps
    length_listed [] k = refl
    length_listed (p ∷ ps) k = one p.id (at p.key) (listed at ps) k.0 ∙ ap suc (length_listed ps k.2)
      where
        one : (id : ℕ) (o : Option V) (es : List (ℕ × V)) → IsSome o → length (paired id o es) ≡ suc (length es)
        one id None es h = absurd (false≢true h)
        one id (Some v) es h = refl

    pub fall_listed : (top : ℕ) (ps : List Place) → Falls top ps → AreKeyed at ps → FallFrom top (listed at ps)
    fall_listed top [] h k = tt
    fall_listed top (p ∷ ps) h k = fall_first top p.id (at p.key) (listed at ps) k.0 h.0 (fall_listed p.id ps h.1 k.2)

    pub free_vacant : (key : ℕ) (ps : List Place) → AreKeyed at ps → at key ≡ None → IsFree key ps
    free_vacant key [] k e = tt
    free_vacant key (p ∷ ps) k e = (λ same. some_not_none (at p.key) k.0 (ap at same ∙ e), free_vacant key ps k.2 e)

    pub free_gone : (ps : List Place) (i : ℕ) (d : Place) → AreKeyed at ps → i < length ps → IsFree (get_or ps i d).key (remove ps i)
    free_gone [] i d k within = absurd (omega arith)
    free_gone (p ∷ ps) zero d k within = k.1
    free_gone (p ∷ ps) (suc i) d k within = (λ e. free_at p.key ps i d k.1 (omega arith) (sym e), free_gone ps i d k.2 (omega arith))

    pub keyed_gone : (ps : List Place) (i : ℕ) → AreKeyed at ps → i < length ps → AreKeyed at (remove ps i)
    keyed_gone [] i k within = absurd (omega arith)
    keyed_gone (p ∷ ps) zero k within = k.2
    keyed_gone (p ∷ ps) (suc i) k within = (k.0, free_left p.key ps i k.1 (omega arith), keyed_gone ps i k.2 (omega arith))

    module _ (now : ℕ → Option V) (key : ℕ) (same : (other : ℕ) → other ≢ key → now other ≡ at other) where
      pub listed_same : (ps : List Place) → IsFree key ps → listed now ps ≡ listed at ps
      listed_same [] f = refl
      listed_same (p ∷ ps) f = ap (λ o. paired p.id o (listed now ps)) (same p.key f.0) ∙ ap (paired p.id (at p.key)) (listed_same ps f.1)

      pub keyed_same : (ps : List Place) → IsFree key ps → AreKeyed at ps → AreKeyed now ps
      keyed_same [] f k = tt
      keyed_same (p ∷ ps) f k = (subst IsSome (sym (same p.key f.0)) k.0, k.1, keyed_same ps f.1 k.2)

    pub left_gone : (top : ℕ) (ps : List Place) (i : ℕ) (d : Place) → Falls top ps → AreKeyed at ps → i < length ps → listed at (remove ps i) ≡ left (listed at ps) (get_or ps i d).id
    left_gone top [] i d h k within = absurd (omega arith)
    left_gone top (p ∷ ps) zero d h k within = sym (left_first p.id (at p.key) (listed at ps) k.0)
    left_gone top (p ∷ ps) (suc i) d h k within =
        let below : (get_or ps i d).id < p.id = all_below p.id ps h.1 i d (omega arith) in
        ap (paired p.id (at p.key)) (left_gone p.id ps i d h.1 k.2 (omega arith))
        ∙ sym (left_later p.id (get_or ps i d).id (at p.key) (listed at ps) (λ e. omega arith))

    pub written_there : (now : ℕ → Option V) (w : V) (top : ℕ) (ps : List Place) (i : ℕ) (d : Place) → Falls top ps → AreKeyed at ps → i < length ps
        → now (get_or ps i d).key ≡ Some w → ((other : ℕ) → other ≢ (get_or ps i d).key → now other ≡ at other)
        → (listed now ps ≡ written (listed at ps) (get_or ps i d).id w) × AreKeyed now ps
    written_there now w top [] i d h k within e same = absurd (omega arith)
    written_there now w top (p ∷ ps) zero d h k within e same = (
      ap (λ o. paired p.id o (listed now ps)) e
          ∙ ap (λ es. (p.id, w) ∷ es) (listed_same now p.key same ps k.1)
          ∙ sym (written_first p.id (at p.key) (listed at ps) w k.0),
      (subst IsSome (sym e) refl, k.1, keyed_same now p.key same ps k.1 k.2),
    )
    written_there now w top (p ∷ ps) (suc i) d h k within e same =
        let below : (get_or ps i d).id < p.id = all_below p.id ps h.1 i d (omega arith) in
        let apart = free_at p.key ps i d k.1 (omega arith) in
        let rest = written_there now w p.id ps i d h.1 k.2 (omega arith) e same in
        let here = same p.key (λ z. apart (sym z)) in (
          ap (λ o. paired p.id o (listed now ps)) here
              ∙ ap (paired p.id (at p.key)) rest.0
              ∙ sym (written_later p.id (get_or ps i d).id (at p.key) (listed at ps) w (λ z. omega arith)),
          (subst IsSome (sym here) k.0, k.1, rest.1),
        )
