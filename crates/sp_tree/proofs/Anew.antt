-- A version that begins anew, as the code has it.
use Rattle.std.proofs.Common.{◌≡◌, ℕ, List, [], ◌∷◌, map, get_or, remove, Some, refl, ap, subst, ◌∙◌}
use Rattle.std.proofs.lemmas.Option.{same_Some}
use Rattle.sp_store.specs.Stored.{Stored}
use Rattle.sp_store.specs.Stored as s
use Rattle.sp_tree.specs.declared.vertex.Below as code
use Rattle.sp_tree.specs.declared.version.Version.{Version as Branch}
use Rattle.sp_tree.specs.declared.version.Change.TheVariants as c
use Rattle.sp_tree.specs.Version.{Version}
use Rattle.sp_tree.specs.Branches.{seen, changed_by, at_one, kept_shape, AreReshaped, IsIndex}
use Rattle.sp_tree.specs.Shape.{renumbered}
use Rattle.sp_tree.specs.Grown.{begun_anew}
use Rattle.sp_tree.specs.Joined.{joined, AreJoined, IsTree, IsPrunedFrom}
use Rattle.sp_tree.proofs.Renewed.{Begun, begun, fresh, lives, some_entry, tree}
use Rattle.sp_tree.proofs.Searched.{falling, found_read}
use Rattle.sp_tree.proofs.Trees.{renewed_tree, IsHung}

module _ {V : Type 0} (vs : List Branch) (values : Stored V) (id i : ℕ) (h : IsTree vs values) (at : IsIndex vs id i) (v : Branch) (read : v ≡ get_or vs i v)
    (next : ℕ) (answer : Some next ≡ s.renewed_id values id) (groups : List ℕ) (bare : groups ≡ []) (changed : List Branch) (same : map seen changed ≡ map seen (remove vs i)) where
  -- the version that begins anew
  abbrev pub new : Branch
  new = record { id = next; parent = v.parent; label = v.label; groups = groups; below = code.Nothing }

  pub id_is : next ≡ values.next
  id_is = same_Some next values.next (answer ∙ lives vs values id i h at)

  new_is : seen new ≡ seen (fresh values.next v)
  new_is =
      ap (λ (n : ℕ). let z : Version = record { id = n; parent = v.parent; label = v.label; groups = groups } in z) id_is
      ∙ ap (λ (l : List ℕ). let z : Version = record { id = values.next; parent = v.parent; label = v.label; groups = l } in z) bare

  pub begins : (now : List Branch) → now ≡ new ∷ changed → Begun vs values now id
  begins now is = begun vs values id i h at v new read changed now new_is same is

  -- what hangs below the versions then
  pub hangs : (now ended : List Branch) (ends : Stored V) → now ≡ new ∷ changed → AreReshaped (at_one v.parent (λ groups. renumbered v.label next)) (remove vs i) changed → AreReshaped kept_shape now ended
      → AreJoined ended ends → ends.next ≡ (s.renewed values id).next → ends.bound ≡ (s.renewed values id).bound
      → IsPrunedFrom 1 (changed_by c.Prune) (joined now (s.renewed values id).entries) (joined ended ends.entries) → IsHung ended
  hangs now ended ends is change carried both next_is bound_is pruned =
      let b = begins now is in
      let there = found_read vs id i v (falling vs values h.both) at read in
      let e = some_entry vs values.entries id v h.both.ids there in
      let whole = b.shape (joined ended ends.entries) ends.next ends.bound pruned next_is bound_is ∙ ap (begun_anew (tree vs values) id) e.1 in
      renewed_tree vs changed now ended values ends id i v new h at.0 there
      (subst (λ (n : ℕ). AreReshaped (at_one v.parent (λ groups. renumbered v.label n)) (remove vs i) changed) id_is change) is new_is refl carried both.ids e.0 (ap (λ t. t.entries) whole)
