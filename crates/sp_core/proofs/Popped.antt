-- The root of a tree goes, whatever its value is by then.
use Rattle.std.proofs.Common.{◌≡◌, ℕ, Bool, true, false, cond, ◌==◌, List, [], ◌∷◌, Option, Some, None, is_some, refl, sym, ap, subst, ◌∙◌, arith}
use Rattle.std.specs.Prelude.{IfSome, IsSome}
use Rattle.std.proofs.lemmas.Bool.Decides.{nat_tests}
use Rattle.std.proofs.lemmas.Option.{same_Some}
use Rattle.sp_group.specs.Family.{entry_at, kept, prune}
use Rattle.sp_tree.specs.Version as tree
use Rattle.sp_tree.specs.Changes.{promoted}
use Rattle.sp_tree.specs.Grown.{Grown, Entry, groups_of, kin, lifted, pruned, root_in, value_of, with_value, with_version, without_root, written}

module _ {V : Type 0} where
  pub root_written : (es : List (Entry V)) (id : ℕ) (v : V) → root_in (written es id v) ≡ root_in es
  root_written [] id v = refl
  root_written (e ∷ es) id v = one (e.version.id == id) (root_written es id v)
    where
      one : (b : Bool) → root_in (written es id v) ≡ root_in es → root_in (cond b (record e { value = v } ∷ es) (e ∷ written es id v)) ≡ root_in (e ∷ es)
      one true rest = refl
      one false rest = ap (λ o. cond (is_some e.version.parent) o (Some e.version.id)) rest

  groups_if : (b : Bool) (e : Entry V) (v : V) (o p : Option (Entry V)) → groups_of o ≡ groups_of p → groups_of (cond b (Some (record e { value = v })) o) ≡ groups_of (cond b (Some e) p)
  groups_if true e v o p h = refl
  groups_if false e v o p h = h

  groups_same : (b : Bool) (e : Entry V) (o p : Option (Entry V)) → groups_of o ≡ groups_of p → groups_of (cond b (Some e) o) ≡ groups_of (cond b (Some e) p)
  groups_same true e o p h = refl
  groups_same false e o p h = h

  groups_written : (es : List (Entry V)) (id : ℕ) (v : V) (at : ℕ) → groups_of (entry_at kin (written es id v) at) ≡ groups_of (entry_at kin es at)
  groups_written [] id v at = refl
  groups_written (e ∷ es) id v at = one (e.version.id == id) (groups_written es id v at)
    where
      one : (b : Bool) → groups_of (entry_at kin (written es id v) at) ≡ groups_of (entry_at kin es at)
          → groups_of (entry_at kin (cond b (record e { value = v } ∷ es) (e ∷ written es id v)) at) ≡ groups_of (entry_at kin (e ∷ es) at)
      one true rest = groups_if (e.version.id == at) e v (entry_at kin es at) (entry_at kin es at) refl
      one false rest = groups_same (e.version.id == at) e (entry_at kin (written es id v) at) (entry_at kin es at) rest

  gone : (id : ℕ) (version : tree.Version) (v : V) → (version.id == id) ≡ true → with_version v (promoted id version) ≡ None
  gone id version v h = rw h refl

  pruned_written : (es : List (Entry V)) (id : ℕ) (v : V) → prune kin (lifted (promoted id)) (written es id v) ≡ prune kin (lifted (promoted id)) es
  pruned_written [] id v = refl
  pruned_written (e ∷ es) id v = one (e.version.id == id) refl (pruned_written es id v)
    where
      one : (b : Bool) → (e.version.id == id) ≡ b → prune kin (lifted (promoted id)) (written es id v) ≡ prune kin (lifted (promoted id)) es
          → prune kin (lifted (promoted id)) (cond b (record e { value = v } ∷ es) (e ∷ written es id v)) ≡ prune kin (lifted (promoted id)) (e ∷ es)
      one true is rest =
          ap (λ o. kept kin o (prune kin (lifted (promoted id)) es)) (gone id e.version v is ∙ sym (gone id e.version e.value is))
      one false is rest = ap (kept kin (lifted (promoted id) e)) rest

  -- the root is live
  pub root_live : (es : List (Entry V)) (root : ℕ) → root_in es ≡ Some root → value_of (entry_at kin es root) ≡ None → ⊥
  root_live [] root h none = cc
  root_live (e ∷ es) root h none = one (is_some e.version.parent) (e.version.id == root) refl h none (root_live es root)
    where
      one : (p b : Bool) → (e.version.id == root) ≡ b → cond p (root_in es) (Some e.version.id) ≡ Some root → value_of (cond b (Some e) (entry_at kin es root)) ≡ None
          → (root_in es ≡ Some root → value_of (entry_at kin es root) ≡ None → ⊥) → ⊥
      one p true is h none rest = cc
      one true false is h none rest = rest h none
      one false false is h none rest = let same = same_Some e.version.id root h in grind (arith, nat_tests)

  module _ (t : Grown V) (root : ℕ) (v : V) (at : root_in t.entries ≡ Some root) where
    root_then : root_in (written t.entries root v) ≡ Some root
    root_then = root_written t.entries root v ∙ at

    pub has_root : IsSome (root_in (written t.entries root v))
    has_root = ap is_some root_then

    pub has_no_group : groups_of (entry_at kin t.entries root) ≡ []
        → IfSome (root_in (written t.entries root v)) (λ id. groups_of (entry_at kin (written t.entries root v) id) ≡ [])
    has_no_group none =
        subst (λ (o : Option ℕ). IfSome o (λ id. groups_of (entry_at kin (written t.entries root v) id) ≡ [])) (sym root_then)
        (groups_written t.entries root v root ∙ none)

    pub root_gone : without_root (with_value t root v) (root_in (written t.entries root v)) ≡ pruned (promoted root) t
    root_gone = ap (without_root (with_value t root v)) root_then ∙ ap (λ (es : List (Entry V)). record t { entries = es }) (pruned_written t.entries root v)
