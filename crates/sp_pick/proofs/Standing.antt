-- Where a version stands: its survival and its depth follow from those of its parent, which has a lesser id.
use Rattle.std.proofs.Common.{◌≡◌, ℕ, ◌+◌, ◌<◌, ◌≤◌, Bool, true, false, cond, ◌==◌, List, [], ◌∷◌, length, Option, Some, None, is_some, refl, sym, ap, ◌∙◌, arith}
use Rattle.std.proofs.lemmas.Bool.Decides.{nat_tests}
use Rattle.sp_base.specs.Limits.{whole_share}
use Rattle.sp_group.specs.Family.{entry_at, parent_there}
use Rattle.sp_tree.specs.Grown.{AreRooted, Entry, FallFrom, kin, groups_of}
use Rattle.sp_pick.specs.Picking.{under, survival_under, survival_in, survival_of_child, depth_in, depth_under}

module _ {V : Type 0} where
  -- an entry that is there
  pub some_entry : (o : Option (Entry V)) → is_some o ≡ true → (e : Entry V) × (o ≡ Some e)
  some_entry None is = absurd (cc is)
  some_entry (Some e) is = (e, refl)

  -- what is found has the id, which is below where ids fall from
  pub id_below : (top : ℕ) (es : List (Entry V)) (id : ℕ) (e : Entry V) → FallFrom top es → entry_at kin es id ≡ Some e → id < top
  id_below top [] id e fall at = absurd (cc)
  id_below top (x ∷ es) id e fall at = one (id_below x.version.id es id e fall.1) (x.version.id == id) refl at
    where
      one : (entry_at kin es id ≡ Some e → id < x.version.id) → (b : Bool) → (x.version.id == id) ≡ b → cond b (Some x) (entry_at kin es id) ≡ Some e → id < top
      one rest true is at = let low = fall.0 in grind (arith, nat_tests)
      one rest false is at = let low = fall.0 in let next = rest at in omega arith

  -- no version is deeper than there are versions
  pub depth_within : (es : List (Entry V)) (id : ℕ) → depth_in es id ≤ length es
  depth_within [] id = omega arith
  depth_within (x ∷ es) id = one (λ p. depth_within es p) (x.version.id == id) x.version.parent
    where
      one : ((p : ℕ) → depth_in es p ≤ length es) → (b : Bool) (parent : Option ℕ) → cond b (depth_under (depth_in es) parent) (depth_in es id) ≤ length (x ∷ es)
      one rest true None = omega arith
      one rest true (Some p) = let h = rest p in omega arith
      one rest false parent = let h = rest id in omega arith

  module _ (shares : ℕ → ℕ → ℕ) where
    -- a version under its parent
    pub record IsUnder (es : List (Entry V)) (id p : ℕ) (label : List ℕ) : Type 0 where
      pub live : is_some (entry_at kin es p) ≡ true
      pub less : p < id
      pub survival : survival_in shares es id ≡ survival_of_child shares es p label
      pub depth : depth_in es id ≡ depth_in es p + 1

    -- the root
    pub record IsRoot (es : List (Entry V)) (id : ℕ) : Type 0 where
      pub survival : survival_in shares es id ≡ whole_share
      pub depth : depth_in es id ≡ 0

    -- the first entry, and those behind it
    here : (x : Entry V) (es : List (Entry V)) (id : ℕ) → (x.version.id == id) ≡ true
        → (survival_in shares (x ∷ es) id ≡ survival_under shares (λ p. groups_of (entry_at kin es p)) (survival_in shares es) x.version.parent x.version.label)
        × (depth_in (x ∷ es) id ≡ depth_under (depth_in es) x.version.parent)
    here x es id own = (
      ap (λ (b : Bool). cond b (survival_under shares (λ p. groups_of (entry_at kin es p)) (survival_in shares es) x.version.parent x.version.label) (survival_in shares es id)) own,
      ap (λ (b : Bool). cond b (depth_under (depth_in es) x.version.parent) (depth_in es id)) own,
    )

    skip : (x : Entry V) (es : List (Entry V)) (id : ℕ) → (x.version.id == id) ≡ false
        → (survival_in shares (x ∷ es) id ≡ survival_in shares es id) × (depth_in (x ∷ es) id ≡ depth_in es id) × (entry_at kin (x ∷ es) id ≡ entry_at kin es id)
    skip x es id other = (
      ap (λ (b : Bool). cond b (survival_under shares (λ p. groups_of (entry_at kin es p)) (survival_in shares es) x.version.parent x.version.label) (survival_in shares es id)) other,
      ap (λ (b : Bool). cond b (depth_under (depth_in es) x.version.parent) (depth_in es id)) other,
      ap (λ (b : Bool). cond b (Some x) (entry_at kin es id)) other,
    )

    further : (x : Entry V) (es : List (Entry V)) (p : ℕ) (label : List ℕ) → (x.version.id == p) ≡ false → survival_of_child shares (x ∷ es) p label ≡ survival_of_child shares es p label
    further x es p label other =
        let s = skip x es p other in
        ap (λ (o : Option (Entry V)). under (shares p) (groups_of o) label (survival_in shares (x ∷ es) p)) s.2
        ∙ ap (under (shares p) (groups_of (entry_at kin es p)) label) s.0

    pub under_parent : (top : ℕ) (es : List (Entry V)) (id : ℕ) (e : Entry V) (p : ℕ) → FallFrom top es → AreRooted es → entry_at kin es id ≡ Some e → e.version.parent ≡ Some p
        → IsUnder es id p e.version.label
    under_parent top [] id e p fall rooted at up = absurd (cc at)
    under_parent top (x ∷ es) id e p fall rooted at up =
        one (x.version.id == id) refl at (λ there. under_parent x.version.id es id e p fall.1 rooted.1 there up)
      where
        one : (b : Bool) → (x.version.id == id) ≡ b → cond b (Some x) (entry_at kin es id) ≡ Some e
            → (entry_at kin es id ≡ Some e → IsUnder es id p e.version.label) → IsUnder (x ∷ es) id p e.version.label
        one true is at rest =
            let same : x ≡ e = cc at in
            let up' : x.version.parent ≡ Some p = ap (λ (y : Entry V). y.version.parent) same ∙ up in
            let there : is_some (entry_at kin es p) ≡ true = sym (ap (parent_there kin es) up') ∙ rooted.0 in
            let u = some_entry (entry_at kin es p) there in
            let less = id_below x.version.id es p u.0 fall.1 u.1 in
            let own : x.version.id ≡ id = grind (arith, nat_tests) in
            let other : (x.version.id == p) ≡ false = grind (arith, nat_tests) in
            let s = skip x es p other in
            let h = here x es id is in record {
              live = ap is_some s.2 ∙ there;
              less = omega (arith, less, own);
              survival =
                  h.0 ∙ ap (λ (o : Option ℕ). survival_under shares (λ p. groups_of (entry_at kin es p)) (survival_in shares es) o x.version.label) up'
                  ∙ ap (λ (y : Entry V). survival_of_child shares es p y.version.label) same ∙ sym (further x es p e.version.label other);
              depth = h.1 ∙ ap (depth_under (depth_in es)) up' ∙ ap (λ n. n + 1) (sym s.1);
            }
        one false is at rest =
            let r = rest at in
            let low = id_below x.version.id es id e fall.1 at in
            let less = r.less in
            let other : (x.version.id == p) ≡ false = grind (arith, nat_tests) in
            let s = skip x es id is in
            let up' = skip x es p other in record {
              live = ap is_some up'.2 ∙ r.live;
              less = less;
              survival = s.0 ∙ r.survival ∙ sym (further x es p e.version.label other);
              depth = s.1 ∙ r.depth ∙ ap (λ n. n + 1) (sym up'.1);
            }

    pub at_root : (es : List (Entry V)) (id : ℕ) (e : Entry V) → entry_at kin es id ≡ Some e → e.version.parent ≡ None → IsRoot es id
    at_root [] id e at top = absurd (cc at)
    at_root (x ∷ es) id e at top = one (x.version.id == id) refl at (λ there. at_root es id e there top)
      where
        one : (b : Bool) → (x.version.id == id) ≡ b → cond b (Some x) (entry_at kin es id) ≡ Some e → (entry_at kin es id ≡ Some e → IsRoot es id) → IsRoot (x ∷ es) id
        one true is at rest =
            let same : x ≡ e = cc at in
            let none : x.version.parent ≡ None = ap (λ (y : Entry V). y.version.parent) same ∙ top in
            let h = here x es id is in record {
              survival = h.0 ∙ ap (λ (o : Option ℕ). survival_under shares (λ p. groups_of (entry_at kin es p)) (survival_in shares es) o x.version.label) none;
              depth = h.1 ∙ ap (depth_under (depth_in es)) none;
            }
        one false is at rest =
            let r = rest at in
            let s = skip x es id is in
            record { survival = s.0 ∙ r.survival; depth = s.1 ∙ r.depth }
