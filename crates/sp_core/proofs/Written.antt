-- A value that is written to an entry of the tree: what stays the same of each entry, what holds of each, and what every tree keeps.
use Rattle.std.proofs.Common.{◌≡◌, ℕ, ◌<◌, Bool, true, false, cond, ◌==◌, List, [], ◌∷◌, length, map, Option, Some, None, is_some, refl, sym, ap, subst, ◌∙◌, arith}
use Rattle.std.specs.List.{All}
use Rattle.std.proofs.lemmas.Bool.Decides.{nat_tests}
use Rattle.std.proofs.lemmas.List.Elements.{All-nil, All-cons, All-head, All-tail}
use Rattle.sp_group.specs.Family.{entry_at, parent_there}
use Rattle.sp_tree.specs.Grown.{Grown, Entry, kin, value_of, written, with_value, AreGrown, AreRooted, FallFrom}

module _ {V : Type 0} where
  -- what the new value does not change
  pub map_written : {B : Type 0} (f : Entry V → B) (es : List (Entry V)) (id : ℕ) (w : V) (e : Entry V) → entry_at kin es id ≡ Some e
      → f (record e { value = w }) ≡ f e → map f (written es id w) ≡ map f es
  map_written f [] id w e at same = refl
  map_written f (x ∷ es) id w e at same = one (map_written f es id w e) (x.version.id == id) at
    where
      one : (entry_at kin es id ≡ Some e → f (record e { value = w }) ≡ f e → map f (written es id w) ≡ map f es) → (b : Bool)
          → cond b (Some x) (entry_at kin es id) ≡ Some e → map f (cond b (record x { value = w } ∷ es) (x ∷ written es id w)) ≡ map f (x ∷ es)
      one rest true is = let x_is : e ≡ x = cc in subst (λ (y : Entry V). f (record y { value = w }) ∷ map f es ≡ f y ∷ map f es) x_is (ap (λ y. y ∷ map f es) same)
      one rest false is = ap (λ ys. f x ∷ ys) (rest is same)

  -- the value that is there, written once more, changes nothing
  written_same : (es : List (Entry V)) (id : ℕ) (w : V) → Some w ≡ value_of (entry_at kin es id) → written es id w ≡ es
  written_same [] id w at = refl
  written_same (x ∷ es) id w at = one (written_same es id w) (x.version.id == id) at
    where
      one : (Some w ≡ value_of (entry_at kin es id) → written es id w ≡ es) → (b : Bool) → Some w ≡ value_of (cond b (Some x) (entry_at kin es id))
          → cond b (record x { value = w } ∷ es) (x ∷ written es id w) ≡ x ∷ es
      one rest true is = let same : w ≡ x.value = cc in ap (λ (v : V). record x { value = v } ∷ es) same
      one rest false is = ap (λ (ys : List (Entry V)). x ∷ ys) (rest is)

  pub same_written : (t : Grown V) (id : ℕ) (w : V) → Some w ≡ value_of (entry_at kin t.entries id) → with_value t id w ≡ t
  same_written t id w at = ap (λ (es : List (Entry V)). record t { entries = es }) (written_same t.entries id w at)

  pub length_written : (es : List (Entry V)) (id : ℕ) (w : V) → length (written es id w) ≡ length es
  length_written [] id w = refl
  length_written (x ∷ es) id w = one (length_written es id w) (x.version.id == id)
    where
      one : length (written es id w) ≡ length es → (b : Bool) → length (cond b (record x { value = w } ∷ es) (x ∷ written es id w)) ≡ length (x ∷ es)
      one rest true = refl
      one rest false = omega arith

  -- ids that fall are not the one from which they fall
  others_all : (P Q : Entry V → Type 0) (id : ℕ) → ((x : Entry V) → P x → ¬ (x.version.id ≡ id) → Q x) → (top : ℕ) (es : List (Entry V)) → top ≡ id → FallFrom top es → All P es → All Q es
  others_all P Q id beside top [] is fall all = All-nil Q
  others_all P Q id beside top (x ∷ es) is fall all =
      All-cons Q x es (beside x (All-head P x es all) (λ same. let low = fall.0 in absurd (omega arith))) (below x.version.id es (let low = fall.0 in omega arith) fall.1 (All-tail P x es all))
    where
      below : (bound : ℕ) (ys : List (Entry V)) → bound < id → FallFrom bound ys → All P ys → All Q ys
      below bound [] low falls holds = All-nil Q
      below bound (y ∷ ys) low falls holds =
          let lower = falls.0 in
          All-cons Q y ys (beside y (All-head P y ys holds) (λ same. absurd (omega arith))) (below y.version.id ys (omega arith) falls.1 (All-tail P y ys holds))

  -- what holds of the entry with the new value, and goes on to hold of each other one, holds of all
  pub all_written : (P Q : Entry V → Type 0) (id : ℕ) (w : V) (e : Entry V) → ((x : Entry V) → P x → ¬ (x.version.id ≡ id) → Q x) → (P e → Q (record e { value = w }))
      → (top : ℕ) (es : List (Entry V)) → FallFrom top es → entry_at kin es id ≡ Some e → All P es → All Q (written es id w)
  all_written P Q id w e beside new top [] fall at all = All-nil Q
  all_written P Q id w e beside new top (x ∷ es) fall at all =
      one (λ there. all_written P Q id w e beside new x.version.id es fall.1 there (All-tail P x es all)) (x.version.id == id) refl at
    where
      one : (entry_at kin es id ≡ Some e → All Q (written es id w)) → (b : Bool) → (x.version.id == id) ≡ b → cond b (Some x) (entry_at kin es id) ≡ Some e
          → All Q (cond b (record x { value = w } ∷ es) (x ∷ written es id w))
      one rest true is here =
          let x_is : x ≡ e = cc in
          let own : x.version.id ≡ id = grind (arith, nat_tests) in
          All-cons Q (record x { value = w }) es (subst (λ (y : Entry V). Q (record y { value = w })) (sym x_is) (new (subst P x_is (All-head P x es all))))
          (others_all P Q id beside x.version.id es own fall.1 (All-tail P x es all))
      one rest false is here =
          All-cons Q x (written es id w) (beside x (All-head P x es all) (λ same. let other : (x.version.id == id) ≡ true = grind (arith, nat_tests) in cc)) (rest here)

  there_written : (es : List (Entry V)) (id : ℕ) (w : V) (p : ℕ) → is_some (entry_at kin (written es id w) p) ≡ is_some (entry_at kin es p)
  there_written [] id w p = refl
  there_written (x ∷ es) id w p = one (there_written es id w p) (x.version.id == id)
    where
      under : (b : Bool) (y z : Entry V) (o u : Option (Entry V)) → is_some o ≡ is_some u → is_some (cond b (Some y) o) ≡ is_some (cond b (Some z) u)
      under true y z o u same = refl
      under false y z o u same = same

      one : is_some (entry_at kin (written es id w) p) ≡ is_some (entry_at kin es p) → (b : Bool)
          → is_some (entry_at kin (cond b (record x { value = w } ∷ es) (x ∷ written es id w)) p) ≡ is_some (entry_at kin (x ∷ es) p)
      one rest true = under (x.version.id == p) (record x { value = w }) x (entry_at kin es p) (entry_at kin es p) refl
      one rest false = under (x.version.id == p) x x (entry_at kin (written es id w) p) (entry_at kin es p) rest

  parent_written : (es : List (Entry V)) (id : ℕ) (w : V) (parent : Option ℕ) → parent_there kin (written es id w) parent ≡ parent_there kin es parent
  parent_written es id w None = refl
  parent_written es id w (Some p) = there_written es id w p

  rooted_written : (es : List (Entry V)) (id : ℕ) (w : V) → AreRooted es → AreRooted (written es id w)
  rooted_written [] id w h = tt
  rooted_written (x ∷ es) id w h = one (rooted_written es id w h.1) (x.version.id == id)
    where
      one : AreRooted (written es id w) → (b : Bool) → AreRooted (cond b (record x { value = w } ∷ es) (x ∷ written es id w))
      one rest true = h
      one rest false = (parent_written es id w x.version.parent ∙ h.0, rest)

  fall_written : (top : ℕ) (es : List (Entry V)) (id : ℕ) (w : V) → FallFrom top es → FallFrom top (written es id w)
  fall_written top [] id w h = tt
  fall_written top (x ∷ es) id w h = one (fall_written x.version.id es id w h.1) (x.version.id == id)
    where
      one : FallFrom x.version.id (written es id w) → (b : Bool) → FallFrom top (cond b (record x { value = w } ∷ es) (x ∷ written es id w))
      one rest true = h
      one rest false = (h.0, rest)

  -- what every tree keeps is kept
  pub grown_written : (t : Grown V) (id : ℕ) (w : V) → AreGrown t → AreGrown (with_value t id w)
  grown_written t id w h = record {
    fall = fall_written t.next t.entries id w h.fall;
    most = let same = length_written t.entries id w in let most = h.most in omega arith;
    rooted = rooted_written t.entries id w h.rooted;
  }
