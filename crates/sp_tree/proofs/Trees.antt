-- What a tree keeps beside its order, after each call that adds, decides, renews or promotes.
use Rattle.std.proofs.Common.{◌≡◌, ℕ, ◌<◌, ◌≤◌, Bool, true, false, cond, ◌==◌, List, [], ◌∷◌, length, map, remove, Option, Some, None, is_some, refl, sym, ap, subst, ◌∙◌, arith}
use Rattle.std.specs.Prelude.{is_none}
use Rattle.std.proofs.lemmas.Option.{same_Some}
use Rattle.sp_base.specs.Numbers.{is_among}
use Rattle.sp_store.specs.Stored.{Stored}
use Rattle.sp_group.specs.declared.outcome.Outcome.{Outcome}
use Rattle.sp_group.specs.Family.{entry_at, prune, is_parent}
use Rattle.sp_tree.specs.declared.version.Version.{Version as Branch}
use Rattle.sp_tree.specs.Version.{Version}
use Rattle.sp_tree.specs.Changes.{decided, but, promoted}
use Rattle.sp_tree.specs.Branches.{branches, seen, root_among, Falls, AreHung, AreReshaped, at_one, kept_shape}
use Rattle.sp_tree.specs.Children.{plain, children_of, HaveOther, AreFamily, IsRising}
use Rattle.sp_tree.specs.Shape.{Nothing, shape_of, cut, planted, renumbered}
use Rattle.sp_tree.specs.Grown.{Entry, kin, groups_of, lifted, LacksChild}
use Rattle.sp_tree.specs.Joined.{joined, HaveIds, IsTree}
use Rattle.sp_tree.proofs.Families as f
use Rattle.sp_tree.proofs.Held.{decided_family, roots}
use Rattle.sp_tree.proofs.Hung.{hung_decided, hung_promoted, hung_planted, family_added, hung_renewed, family_renewed, none_begun, left_below, family_promoted, once}
use Rattle.sp_tree.proofs.Seen.{seen_entry, seen_joined, prune_versions, versions_of, removed_entry, stands, version_rises}
use Rattle.sp_tree.proofs.Searched.{falling}

pub record IsHung (vs : List Branch) : Type 0 where
  pub family : AreFamily (map seen vs)
  pub hung : AreHung vs

-- a parent is older than the next id
pub parent_below : (top : ℕ) (vs : List Version) → f.Falls top vs → f.AreYounger vs → (id : ℕ) (v : Version) → entry_at plain vs id ≡ Some v → (p : ℕ) → v.parent ≡ Some p → p < top
parent_below top [] h y id v at p e = absurd (cc)
parent_below top (x ∷ vs) h y id v at p e = one (x.id == id) at (parent_below x.id vs h.1 y.1 id v)
  where
    one : (b : Bool) → cond b (Some x) (entry_at plain vs id) ≡ Some v → (entry_at plain vs id ≡ Some v → (p : ℕ) → v.parent ≡ Some p → p < x.id) → p < top
    one true at rest = let low = h.0 in let less = y.0 p (ap (λ (z : Version). z.parent) (same_Some x v at) ∙ e) in omega arith
    one false at rest = let low = h.0 in let less = rest at p e in omega arith

-- the version without a parent
root_there : (top : ℕ) (vs : List Branch) (root : ℕ) → Falls top vs → root_among vs ≡ Some root → root < top
root_there top [] root h e = absurd (cc)
root_there top (v ∷ vs) root h e = one v.parent e (root_there v.id vs root h.1)
  where
    one : (o : Option ℕ) → cond (is_some o) (root_among vs) (Some v.id) ≡ Some root → (root_among vs ≡ Some root → root < v.id) → root < top
    one None e rest = let low = h.0 in let same = same_Some v.id root e in omega arith
    one (Some p) e rest = let low = h.0 in let less = rest e in omega arith

none_older : (top : ℕ) (vs : List Branch) (root : ℕ) → Falls top vs → top ≤ root → f.HasNone root (map seen vs)
none_older top [] root h le = tt
none_older top (v ∷ vs) root h le = let low = h.0 in ((λ e. absurd (omega arith)), none_older v.id vs root h.1 (omega arith))

has_none : (top : ℕ) (vs : List Branch) (root : ℕ) → Falls top vs → root_among vs ≡ Some root → f.HasNone root (map seen vs)
has_none top [] root h e = tt
has_none top (v ∷ vs) root h e = one v.parent refl e (λ (k : root_among vs ≡ Some root). (root_there v.id vs root h.1 k, has_none v.id vs root h.1 k))
  where
    one : (o : Option ℕ) → v.parent ≡ o → cond (is_some o) (root_among vs) (Some v.id) ≡ Some root
        → (root_among vs ≡ Some root → (root < v.id) × f.HasNone root (map seen vs)) → (v.id ≡ root → v.parent ≡ None) × f.HasNone root (map seen vs)
    one None is e rest = let same = same_Some v.id root e in ((λ z. is), none_older v.id vs root h.1 (omega arith))
    one (Some p) is e rest = let r = rest e in let less = r.0 in ((λ z. absurd (omega arith)), r.1)

root_entry : (vs : List Branch) (root : ℕ) → root_among vs ≡ Some root → f.HasNone root (map seen vs) → (v : Version) × (entry_at plain (map seen vs) root ≡ Some v) × (v.parent ≡ None)
root_entry [] root e none = absurd (cc)
root_entry (v ∷ vs) root e none = one (v.id == root) refl v.parent refl e (λ (k : root_among vs ≡ Some root). root_entry vs root k none.1)
  where
    one : (b : Bool) → (v.id == root) ≡ b → (o : Option ℕ) → v.parent ≡ o → cond (is_some o) (root_among vs) (Some v.id) ≡ Some root
        → (root_among vs ≡ Some root → (x : Version) × (entry_at plain (map seen vs) root ≡ Some x) × (x.parent ≡ None))
        → (x : Version) × (cond b (Some (seen v)) (entry_at plain (map seen vs) root) ≡ Some x) × (x.parent ≡ None)
    one true is o up e rest = (seen v, refl, none.0 (f.same v.id root is))
    one false is None up e rest = absurd (f.apart v.id root is (same_Some v.id root e))
    one false is (Some p) up e rest = rest e

module _ {V : Type 0} where
  -- a group is decided
  pub decided_tree : (was cutted now : List Branch) (values ends : Stored V) (owner run : ℕ) (outcome : Outcome) → IsTree was values → ((v : Branch) → entry_at branches was owner ≡ Some v → is_among v.groups run ≡ true)
      → AreReshaped (at_one (Some owner) (λ groups. cut run outcome)) was cutted → AreReshaped kept_shape cutted now → HaveIds now ends.entries
      → joined now ends.entries ≡ prune kin (lifted (decided owner run outcome)) (joined was values.entries) → IsHung now
  decided_tree was cutted now values ends owner run outcome h was_open change carried ids entries =
      let s = stands was values h.both h.rooted in
      let seen_is : map seen now ≡ prune plain (decided owner run outcome) (map seen was) =
      sym (seen_joined now ends.entries ids) ∙ ap versions_of entries ∙ prune_versions (decided owner run outcome) (joined was values.entries)
      ∙ ap (prune plain (decided owner run outcome)) (seen_joined was values.entries h.both.ids) in
      record {
        family = subst AreFamily (sym seen_is) (decided_family owner run outcome values.next (map seen was) s.falls s.younger h.family);
        hung = hung_decided owner run outcome values.next was cutted now s.falls s.younger h.hung change carried seen_is
            (λ v at. once run v.groups (version_rises was owner v h.family.rising at).1 (was_open v at));
      }

  pub promoted_tree : (was now : List Branch) (values ends : Stored V) (root : ℕ) → IsTree was values → root_among was ≡ Some root → groups_of (entry_at kin (joined was values.entries) root) ≡ []
      → AreReshaped kept_shape was now → HaveIds now ends.entries → joined now ends.entries ≡ prune kin (lifted (promoted root)) (joined was values.entries) → IsHung now
  promoted_tree was now values ends root h root_is bare carried ids entries =
      let s = stands was values h.both h.rooted in
      let fall = falling was values h.both in
      let none = has_none fall.top was root fall.falls root_is in
      let r = root_entry was root root_is none in
      let seen_is : map seen now ≡ prune plain (promoted root) (map seen was) =
      sym (seen_joined now ends.entries ids) ∙ ap versions_of entries ∙ prune_versions (promoted root) (joined was values.entries)
      ∙ ap (prune plain (promoted root)) (seen_joined was values.entries h.both.ids) in
      let groups : r.0.groups ≡ [] = no_groups (joined was values.entries) root r.0 (subst (λ (l : List Version). entry_at plain l root ≡ Some r.0) (sym (seen_joined was values.entries h.both.ids)) r.1) bare in
      record {
        family = subst AreFamily (sym seen_is) (family_promoted root values.next (map seen was) r.0 s.falls s.younger none r.1 r.2 groups h.family);
        hung = hung_promoted root values.next was now s.falls s.younger none h.hung carried seen_is;
      }
    where
      no_groups : (es : List (Entry V)) (root : ℕ) (v : Version) → entry_at plain (versions_of es) root ≡ Some v → groups_of (entry_at kin es root) ≡ [] → v.groups ≡ []
      no_groups [] root v at bare = absurd (cc)
      no_groups (e ∷ es) root v at bare = go (e.version.id == root) at bare (no_groups es root v)
        where
          go : (b : Bool) → cond b (Some e.version) (entry_at plain (versions_of es) root) ≡ Some v → groups_of (cond b (Some e) (entry_at kin es root)) ≡ []
              → (entry_at plain (versions_of es) root ≡ Some v → groups_of (entry_at kin es root) ≡ [] → v.groups ≡ []) → v.groups ≡ []
          go true at bare rest = ap (λ (z : Version). z.groups) (sym (same_Some e.version v at)) ∙ bare
          go false at bare rest = rest at bare

  -- a version begins anew
  pub renewed_tree : (was changed now ended : List Branch) (values ends : Stored V) (id i : ℕ) (v new : Branch) → IsTree was values → i < length was → entry_at branches was id ≡ Some v
      → AreReshaped (at_one v.parent (λ groups. renumbered v.label values.next)) (remove was i) changed → now ≡ new ∷ changed
      → seen new ≡ record { id = values.next; parent = v.parent; label = v.label; groups = [] } → shape_of new.below ≡ Nothing → AreReshaped kept_shape now ended → HaveIds ended ends.entries
      → (x : V) → joined ended ends.entries ≡ record { version = record { id = values.next; parent = v.parent; label = v.label; groups = [] }; value = x } ∷ prune kin (lifted (but id)) (joined was values.entries) → IsHung ended
  renewed_tree was changed now ended values ends id i v new h within at change now_is new_is bare carried ids x entries =
      let s = stands was values h.both h.rooted in
      let fall = falling was values h.both in
      let up = parent_below values.next (map seen was) s.falls s.younger id (seen v) (seen_entry was id v at) in
      let begun : Version = record { id = values.next; parent = v.parent; label = v.label; groups = [] } in
      let seen_is : map seen ended ≡ begun ∷ prune plain (but id) (map seen was) =
      sym (seen_joined ended ends.entries ids) ∙ ap versions_of entries
      ∙ ap (λ (l : List Version). begun ∷ l) (prune_versions (but id) (joined was values.entries) ∙ ap (prune plain (but id)) (seen_joined was values.entries h.both.ids)) in
      record {
        family = subst AreFamily (sym seen_is) (family_renewed values.next was id v s.falls s.younger at h.family up);
        hung = hung_renewed values.next was id v s.falls s.younger at (remove was i) changed ended new h.hung (λ n y there. removed_entry fall.top was i fall.falls within n y there) change
            (subst (λ (l : List Branch). AreReshaped kept_shape l ended) now_is carried) seen_is new_is bare
            (none_begun values.next was id v s.falls s.younger at up) (left_below values.next was id v s.falls s.younger at);
      }

  -- a version comes in
  other_children : (p : ℕ) (label : List ℕ) (es : List (Entry V)) → LacksChild es p label → HaveOther label (children_of p (versions_of es))
  other_children p label [] h = tt
  other_children p label (e ∷ es) h = one (is_parent p e.version.parent) refl (other_children p label es h.1)
    where
      one : (b : Bool) → is_parent p e.version.parent ≡ b → HaveOther label (children_of p (versions_of es)) → HaveOther label (cond b ((e.version.label, e.version.id) ∷ children_of p (versions_of es)) (children_of p (versions_of es)))
      one true is rest = ((λ z. h.0 (f.is_parent_is p e.version.parent is, z)), rest)
      one false is rest = rest

  pub added_tree : (was planted_ : List Branch) (values : Stored V) (parent : Option ℕ) (label : List ℕ) (new : Branch) → IsTree was values → IsRising label
      → (parent ≡ None → was ≡ []) → ((p : ℕ) → parent ≡ Some p → (is_some (entry_at plain (map seen was) p) ≡ true) × LacksChild (joined was values.entries) p label)
      → ((p : ℕ) (v : Version) → parent ≡ Some p → entry_at plain (map seen was) p ≡ Some v → (r : ℕ) → is_among label r ≡ true → is_among v.groups r ≡ true)
      → map seen planted_ ≡ map seen was → AreReshaped (at_one parent (λ groups. planted groups label values.next)) was planted_
      → seen new ≡ record { id = values.next; parent = parent; label = label; groups = [] } → shape_of new.below ≡ Nothing → IsHung (new ∷ planted_)
  added_tree was planted_ values parent label new h rises first child over seen_is change new_is bare =
      let s = stands was values h.both h.rooted in
      let older : (p : ℕ) → parent ≡ Some p → p < values.next = λ p e. f.there_below values.next (map seen was) p s.falls (child p e).0 in
      record {
        family = subst AreFamily (sym (ap (λ (v : Version). v ∷ map seen planted_) new_is ∙ ap (λ (l : List Version). (record { id = values.next; parent = parent; label = label; groups = [] }) ∷ l) seen_is))
            (family_added values.next was parent label s.falls s.younger older h.family rises (few parent refl)
            (λ p v e at. (let held = h.family.held p v at in record {
              over = (over p v e at, held.over);
              apart = (subst (λ (l : List Version). HaveOther label (children_of p l)) (seen_joined was values.entries h.both.ids) (other_children p label (joined was values.entries) (child p e).1), held.apart);
            })));
        hung = hung_planted values.next was parent label s.falls s.younger older planted_ new h.hung change seen_is new_is bare;
      }
    where
      few : (o : Option ℕ) → parent ≡ o → length {A = Version} (cond (is_none parent) ((record { id = values.next; parent = parent; label = label; groups = [] }) ∷ roots (map seen was)) (roots (map seen was))) ≤ 1
      few None e =
          subst (λ (l : List Branch). length {A = Version} (cond (is_none parent) ((record { id = values.next; parent = parent; label = label; groups = [] }) ∷ roots (map seen l)) (roots (map seen l))) ≤ 1) (sym (first e)) (one (is_none parent))
        where
          one : (b : Bool) → length {A = Version} (cond b ((record { id = values.next; parent = parent; label = label; groups = [] }) ∷ []) []) ≤ 1
          one true = omega arith
          one false = omega arith
      few (Some p) e =
          subst (λ (o : Option ℕ). length {A = Version} (cond (is_none o) ((record { id = values.next; parent = parent; label = label; groups = [] }) ∷ roots (map seen was)) (roots (map seen was))) ≤ 1) (sym e) h.family.one_root
