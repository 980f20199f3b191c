-- The entries of a tree of which one has other groups and another value.
use Rattle.std.proofs.Common.{◌≡◌, ℕ, ◌+◌, ◌≤◌, Bool, true, false, cond, ◌==◌, List, [], ◌∷◌, map, Option, Some, refl, sym, ap, subst, ◌∙◌, arith}
use Rattle.std.specs.List.{All, sum}
use Rattle.std.proofs.lemmas.Bool.Decides.{nat_tests}
use Rattle.std.proofs.lemmas.List.Elements.{All-nil, All-cons, All-head, All-tail}
use Rattle.sp_group.specs.Family.{Kin, entry_at, prune, kept}
use Rattle.sp_tree.specs.Grown.{Entry, FallFrom, kin, written, regrouped}
use Rattle.sp_core.proofs.Pruning.{sum_first}

module _ {V : Type 0} where
  -- an entry with these groups and this value
  abbrev pub settled : List ℕ → V → Entry V → Entry V
  settled groups value e = record { version = record e.version { groups = groups }; value = value }

  -- the same where it has the id
  abbrev pub settled_if : ℕ → List ℕ → V → Entry V → Entry V
  settled_if id groups value e = cond (e.version.id == id) (settled groups value e) e

  -- below an id nobody has it
  none_below : (id top : ℕ) (es : List (Entry V)) → FallFrom top es → top ≤ id → All (λ e. e.version.id ≡ id → ⊥) es
  none_below id top [] fall low = All-nil (λ e. e.version.id ≡ id → ⊥)
  none_below id top (x ∷ es) fall low =
      let less = fall.0 in
      All-cons (λ e. e.version.id ≡ id → ⊥) x es (λ same. omega arith) (none_below id x.version.id es fall.1 (omega arith))

  -- one entry has the id
  pub only_one : (id top : ℕ) (es : List (Entry V)) (e : Entry V) → FallFrom top es → entry_at kin es id ≡ Some e → All (λ x. x.version.id ≡ id → x ≡ e) es
  only_one id top [] e fall at = absurd (cc)
  only_one id top (x ∷ es) e fall at = one (x.version.id == id) refl at (only_one id x.version.id es e fall.1)
    where
      P : Entry V → Type 0
      P = λ y. y.version.id ≡ id → y ≡ e

      apart : (bound : ℕ) (ys : List (Entry V)) → FallFrom bound ys → bound ≤ id → All P ys
      apart bound [] falls low = All-nil P
      apart bound (y ∷ ys) falls low =
          let less = falls.0 in
          All-cons P y ys (λ same. absurd (omega arith)) (apart y.version.id ys falls.1 (omega arith))

      one : (b : Bool) → (x.version.id == id) ≡ b → cond b (Some x) (entry_at kin es id) ≡ Some e → (entry_at kin es id ≡ Some e → All P es) → All P (x ∷ es)
      one true is here rest =
          let own : x.version.id ≡ id = grind (arith, nat_tests) in
          All-cons P x es (λ same. cc) (apart x.version.id es fall.1 (omega arith))
      one false is there rest = All-cons P x es (λ same. absurd (grind (arith, nat_tests))) (rest there)

  -- what is found has the id
  pub has_id : (id : ℕ) (es : List (Entry V)) (e : Entry V) → entry_at kin es id ≡ Some e → e.version.id ≡ id
  has_id id [] e at = absurd (cc)
  has_id id (x ∷ es) e at = one (x.version.id == id) refl at (has_id id es e)
    where
      one : (b : Bool) → (x.version.id == id) ≡ b → cond b (Some x) (entry_at kin es id) ≡ Some e → (entry_at kin es id ≡ Some e → e.version.id ≡ id) → e.version.id ≡ id
      one true is here rest = let same : x ≡ e = cc in subst (λ (y : Entry V). y.version.id ≡ id) same (grind (arith, nat_tests))
      one false is there rest = rest there

  module _ (id : ℕ) (groups : List ℕ) (value : V) where
    -- below an id nothing is changed
    none_settled : (top : ℕ) (es : List (Entry V)) → FallFrom top es → top ≤ id → map (settled_if id groups value) es ≡ es
    none_settled top [] fall low = refl
    none_settled top (x ∷ es) fall low =
        let less = fall.0 in
        let other : (x.version.id == id) ≡ false = grind (arith, nat_tests) in
        ap (λ b. cond b (settled groups value x) x ∷ map (settled_if id groups value) es) other
        ∙ ap (λ ys. x ∷ ys) (none_settled x.version.id es fall.1 (omega arith))

    -- a value that is written, and groups that are set, change the one entry
    pub settled_are : (top : ℕ) (es : List (Entry V)) → FallFrom top es → regrouped id groups (written es id value) ≡ map (settled_if id groups value) es
    settled_are top [] fall = refl
    settled_are top (x ∷ es) fall = one (x.version.id == id) refl (settled_are x.version.id es fall.1)
      where
        one : (b : Bool) → (x.version.id == id) ≡ b → regrouped id groups (written es id value) ≡ map (settled_if id groups value) es
            → regrouped id groups (cond b (record x { value = value } ∷ es) (x ∷ written es id value)) ≡ cond b (settled groups value x) x ∷ map (settled_if id groups value) es
        one true is rest =
            ap (λ b. cond b (settled groups value x ∷ es) (record x { value = value } ∷ regrouped id groups es)) is
            ∙ ap (λ ys. settled groups value x ∷ ys) (sym (none_settled x.version.id es fall.1 (grind (arith, nat_tests))))
        one false is rest =
            ap (λ b. cond b (settled groups x.value x ∷ written es id value) (x ∷ regrouped id groups (written es id value))) is
            ∙ ap (λ ys. x ∷ ys) rest

    -- the entry of the id is the changed one
    pub settled_at : (es : List (Entry V)) (e : Entry V) → entry_at kin es id ≡ Some e → entry_at kin (regrouped id groups (written es id value)) id ≡ Some (settled groups value e)
    settled_at [] e at = absurd (cc)
    settled_at (x ∷ es) e at = one (x.version.id == id) refl at (settled_at es e)
      where
        one : (b : Bool) → (x.version.id == id) ≡ b → cond b (Some x) (entry_at kin es id) ≡ Some e
            → (entry_at kin es id ≡ Some e → entry_at kin (regrouped id groups (written es id value)) id ≡ Some (settled groups value e))
            → entry_at kin (regrouped id groups (cond b (record x { value = value } ∷ es) (x ∷ written es id value))) id ≡ Some (settled groups value e)
        one true is here rest =
            let same : x ≡ e = cc in
            ap (λ b. entry_at kin (cond b (settled groups value x ∷ es) (record x { value = value } ∷ regrouped id groups es)) id) is
            ∙ ap (λ b. cond b (Some (settled groups value x)) (entry_at kin es id)) is
            ∙ ap (λ y. Some (settled groups value y)) same
        one false is there rest =
            ap (λ b. entry_at kin (cond b (settled groups x.value x ∷ written es id value) (x ∷ regrouped id groups (written es id value))) id) is
            ∙ ap (λ b. cond b (Some x) (entry_at kin (regrouped id groups (written es id value)) id)) is
            ∙ rest there

    -- a sum over the entries changes by what the one entry counts for
    pub sum_settled : (g : Entry V → ℕ) (top : ℕ) (es : List (Entry V)) (e : Entry V) → FallFrom top es → entry_at kin es id ≡ Some e
        → sum (map g (map (settled_if id groups value) es)) + g e ≡ sum (map g es) + g (settled groups value e)
    sum_settled g top [] e fall at = absurd (cc)
    sum_settled g top (x ∷ es) e fall at = one (x.version.id == id) refl at (sum_settled g x.version.id es e fall.1)
      where
        one : (b : Bool) → (x.version.id == id) ≡ b → cond b (Some x) (entry_at kin es id) ≡ Some e
            → (entry_at kin es id ≡ Some e → sum (map g (map (settled_if id groups value) es)) + g e ≡ sum (map g es) + g (settled groups value e))
            → sum (map g (cond b (settled groups value x) x ∷ map (settled_if id groups value) es)) + g e ≡ sum (map g (x ∷ es)) + g (settled groups value e)
        one true is here rest =
            let same : x ≡ e = cc in
            let old = ap g same in
            let new = ap (λ y. g (settled groups value y)) same in
            let others = ap (λ ys. sum (map g ys)) (none_settled x.version.id es fall.1 (grind (arith, nat_tests))) in
            let before = sum_first g x es in
            let after = sum_first g (settled groups value x) (map (settled_if id groups value) es) in
            omega arith
        one false is there rest =
            let more = rest there in
            let before = sum_first g x es in
            let after = sum_first g x (map (settled_if id groups value) es) in
            omega arith

module _ {A B : Type 0} (k : Kin A) (rule : A → Option A) (f g : B → A) where
  -- what a rule makes the same of is pruned the same
  pub pruned_alike : (xs : List B) → All (λ x. rule (f x) ≡ rule (g x)) xs → prune k rule (map f xs) ≡ prune k rule (map g xs)
  pruned_alike [] h = refl
  pruned_alike (x ∷ xs) h =
      ap (λ o. kept k o (prune k rule (map f xs))) (All-head (λ y. rule (f y) ≡ rule (g y)) x xs h)
      ∙ ap (kept k (rule (g x))) (pruned_alike xs (All-tail (λ y. rule (f y) ≡ rule (g y)) x xs h))
