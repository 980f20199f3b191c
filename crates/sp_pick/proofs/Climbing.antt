-- The way up to the root.
use Rattle.std.proofs.Common.{◌≡◌, ℕ, zero, suc, ◌+◌, ◌-◌, ◌<◌, ◌≤◌, true, List, Option, Some, None, is_some, refl, sym, ap, subst, ◌∙◌, zero-add, unwrap_or, arith}
use Rattle.sp_base.specs.Limits.{whole_share}
use Rattle.sp_group.specs.Family.{entry_at}
use Rattle.sp_tree.specs.Grown.{AreRooted, Entry, FallFrom, kin, groups_of, label_of, parent_of}
use Rattle.sp_pick.specs.Picking.{under, survival_in, depth_in}
use Rattle.sp_pick.specs.Paths.{above, climbed}
use Rattle.sp_pick.proofs.Standing.{some_entry, under_parent, at_root}

-- no shares, where they do not matter
none : ℕ → ℕ → ℕ
none owner run = 0

module _ {V : Type 0} where
  -- one step more, at the other end
  pub climbed_more : (es : List (Entry V)) (n id : ℕ) → climbed es (suc n) id ≡ above es (climbed es n id)
  climbed_more es zero id = refl
  climbed_more es (suc n) id = climbed_more es n (above es id)

  pub climbed_far : (es : List (Entry V)) (m n id : ℕ) → climbed es m (climbed es n id) ≡ climbed es (n + m) id
  climbed_far es m zero id = ap (λ k. climbed es k id) (sym (zero-add m))
  climbed_far es m (suc n) id = climbed_far es m n (above es id) ∙ ap (λ k. climbed es k id) (suc_more n m)
    where
      suc_more : (n m : ℕ) → suc (n + m) ≡ suc n + m
      suc_more n m = omega arith

  module _ (top : ℕ) (es : List (Entry V)) (fall : FallFrom top es) (rooted : AreRooted es) where
    -- a live version that stands deeper than the root has a live parent, one step less deep
    pub record HasParent (id : ℕ) : Type 0 where
      pub parent : is_some (parent_of (entry_at kin es id)) ≡ true
      pub live : is_some (entry_at kin es (above es id)) ≡ true
      pub depth : depth_in es id ≡ depth_in es (above es id) + 1

    pub has_parent : (id : ℕ) → is_some (entry_at kin es id) ≡ true → 0 < depth_in es id → HasParent id
    has_parent id live deep =
        let e = some_entry (entry_at kin es id) live in one e.0 e.1 e.0.version.parent refl
      where
        one : (e : Entry V) → entry_at kin es id ≡ Some e → (parent : Option ℕ) → e.version.parent ≡ parent → HasParent id
        one e at None up = let flat = (at_root none es id e at up).depth in absurd (omega arith)
        one e at (Some p) up =
            let u = under_parent none top es id e p fall rooted at up in
            let is : parent_of (entry_at kin es id) ≡ Some p = ap parent_of at ∙ up in
            let there : p ≡ above es id = sym (ap (λ (o : Option ℕ). unwrap_or o id) is) in
            record { parent = ap is_some is; live = subst (λ q. is_some (entry_at kin es q) ≡ true) there u.live; depth = u.depth ∙ ap (λ q. depth_in es q + 1) there }

    -- so many steps up
    pub record IsClimbed (n id : ℕ) : Type 0 where
      pub live : is_some (entry_at kin es (climbed es n id)) ≡ true
      pub depth : depth_in es id ≡ depth_in es (climbed es n id) + n

    pub climbed_is : (n id : ℕ) → is_some (entry_at kin es id) ≡ true → n ≤ depth_in es id → IsClimbed n id
    climbed_is zero id live within = record { live = live; depth = omega arith }
    climbed_is (suc n) id live within =
        let h = has_parent id live (omega arith) in
        let d = h.depth in
        let r = climbed_is n (above es id) h.live (omega arith) in
        let d' = r.depth in
        record { live = r.live; depth = omega arith }

    -- a live version at no depth is the root
    pub whole : (shares : ℕ → ℕ → ℕ) (id : ℕ) → is_some (entry_at kin es id) ≡ true → depth_in es id ≡ 0 → survival_in shares es id ≡ whole_share
    whole shares id live flat =
        let e = some_entry (entry_at kin es id) live in one e.0 e.1 e.0.version.parent refl
      where
        one : (e : Entry V) → entry_at kin es id ≡ Some e → (parent : Option ℕ) → e.version.parent ≡ parent → survival_in shares es id ≡ whole_share
        one e at None up = (at_root shares es id e at up).survival
        one e at (Some p) up = let d = (under_parent shares top es id e p fall rooted at up).depth in absurd (omega arith)

    -- the loop of the depth: one step up
    pub parent_step : (at p : ℕ) → is_some (entry_at kin es at) ≡ true → Some p ≡ parent_of (entry_at kin es at)
        → (is_some (entry_at kin es p) ≡ true) × (depth_in es at ≡ depth_in es p + 1)
    parent_step at p live up =
        let e = some_entry (entry_at kin es at) live in
        let u = under_parent none top es at e.0 p fall rooted e.1 (sym (up ∙ ap parent_of e.1)) in (u.live, u.depth)

    pub root_flat : (at : ℕ) → is_some (entry_at kin es at) ≡ true → None ≡ parent_of (entry_at kin es at) → depth_in es at ≡ 0
    root_flat at live up =
        let e = some_entry (entry_at kin es at) live in (at_root none es at e.0 e.1 (sym (up ∙ ap parent_of e.1))).depth

    -- the survival of a child, from its parent's
    pub child_survives : (shares : ℕ → ℕ → ℕ) (id p : ℕ) (label : List ℕ) (share : ℕ) → Some p ≡ parent_of (entry_at kin es id) → Some label ≡ label_of (entry_at kin es id)
        → share ≡ survival_in shares es (above es id) → under (shares p) (groups_of (entry_at kin es p)) label share ≡ survival_in shares es id
    child_survives shares id p label share up named is = one (entry_at kin es id) refl up named
      where
        one : (o : Option (Entry V)) → entry_at kin es id ≡ o → Some p ≡ parent_of o → Some label ≡ label_of o
            → under (shares p) (groups_of (entry_at kin es p)) label share ≡ survival_in shares es id
        one None at up named = absurd (cc up)
        one (Some e) at up named =
            let u = under_parent shares top es id e p fall rooted at (cc up) in
            let label_is : label ≡ e.version.label = cc named in
            let there : above es id ≡ p = ap (λ (o : Option ℕ). unwrap_or o id) (ap parent_of at ∙ sym up) in
            ap (λ (l : List ℕ). under (shares p) (groups_of (entry_at kin es p)) l share) label_is
            ∙ ap (under (shares p) (groups_of (entry_at kin es p)) e.version.label) (is ∙ ap (survival_in shares es) there)
            ∙ sym u.survival

    -- the way down: the version below one that is so many steps up has a parent, which is that one
    pub next_down : (n id at : ℕ) → is_some (entry_at kin es id) ≡ true → 0 < n → n ≤ depth_in es id → at ≡ climbed es (n - 1) id
        → (is_some (parent_of (entry_at kin es at)) ≡ true) × (climbed es n id ≡ above es at)
    next_down zero id at live some within is = absurd (omega arith)
    next_down (suc n) id at live some within is =
        let same : at ≡ climbed es n id = is ∙ ap (λ k. climbed es k id) (less n) in
        let c = climbed_is n id live (omega arith) in
        let d = c.depth in
        let h = has_parent (climbed es n id) c.live (omega arith) in (
          subst (λ q. is_some (parent_of (entry_at kin es q)) ≡ true) (sym same) h.parent,
          climbed_more es n id ∙ ap (above es) (sym same),
        )
      where
        less : (n : ℕ) → suc n - 1 ≡ n
        less n = omega arith

  -- a loop's step up
  pub climb_step : (es : List (Entry V)) (at n id next : ℕ) → at ≡ climbed es n id → next ≡ unwrap_or (parent_of (entry_at kin es at)) at → next ≡ climbed es (n + 1) id
  climb_step es at n id next is up = up ∙ ap (above es) is ∙ sym (climbed_more es n id) ∙ ap (λ k. climbed es k id) (more n)
    where
      more : (n : ℕ) → suc n ≡ n + 1
      more n = omega arith
