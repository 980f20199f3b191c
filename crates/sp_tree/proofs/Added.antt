-- A version that comes in.
use Rattle.std.proofs.Common.{◌≡◌, ℕ, ◌+◌, true, false, List, [], ◌∷◌, map, Option, Some, None, is_some, refl, sym, ap, subst, ◌∙◌, arith}
use Rattle.std.specs.Prelude.{Result, Ok, Err, OnOk, is_err}
use Rattle.std.proofs.lemmas.Bool.{false≢true}
use Rattle.sp_base.specs.Numbers.{is_among}
use Rattle.sp_store.specs.Stored.{Stored, put_in}
use Rattle.sp_group.specs.Family.{entry_at, parent_there}
use Rattle.sp_group.specs.Rising.{IsLabel}
use Rattle.sp_tree.specs.declared.version.Version.{Version as Branch}
use Rattle.sp_tree.specs.Version.{Version}
use Rattle.sp_tree.specs.Branches.{seen, AreReshaped, at_one}
use Rattle.sp_tree.specs.Children.{plain}
use Rattle.sp_tree.specs.Shape.{Nothing, shape_of, planted}
use Rattle.sp_tree.specs.Grown.{Entry, Grown, AreRooted, CanStand, LacksChild, kin, groups_of, with_child}
use Rattle.sp_tree.specs.Joined.{joined, HaveIds, IsTree}
use Rattle.sp_tree.proofs.Decided.{rises}
use Rattle.sp_tree.proofs.Filled.{from_all}
use Rattle.sp_tree.proofs.Renewed.{tree, some_entry}
use Rattle.sp_tree.proofs.Same.{joined_seen, ids_seen}
use Rattle.sp_tree.proofs.Seen.{seen_joined, entry_seen, there_versions}
use Rattle.sp_tree.proofs.Trees.{added_tree}

pub if_ok : {T E : Type 0} (r : Result T E) (P : Type 0) → OnOk r P → is_err r ≡ false → P
if_ok (Ok x) P h e = h
if_ok (Err x) P h e = absurd (false≢true (sym e))

module _ {V : Type 0} where
  empty_of : (vs : List Branch) (es : List (ℕ × V)) → HaveIds vs es → joined vs es ≡ [] → vs ≡ []
  empty_of [] es h e = refl
  empty_of (v ∷ vs) [] h e = absurd h
  empty_of (v ∷ vs) (x ∷ es) h e = absurd (cc)

  module _ (vs : List Branch) (values : Stored V) (parent : Option ℕ) (label : List ℕ) (h : IsTree vs values) (stands : CanStand (tree vs values) parent label) where
    first : parent ≡ None → vs ≡ []
    first e = let s = subst (λ (o : Option ℕ). CanStand (tree vs values) o label) e stands in empty_of vs values.entries h.both.ids s.0

    under : (p : ℕ) → parent ≡ Some p → CanStand (tree vs values) (Some p) label
    under p e = subst (λ (o : Option ℕ). CanStand (tree vs values) o label) e stands

    child : (p : ℕ) → parent ≡ Some p → (is_some (entry_at plain (map seen vs) p) ≡ true) × LacksChild (joined vs values.entries) p label
    child p e =
        let s = under p e in (
          ap (λ (l : List Version). parent_there plain l (Some p)) (sym (seen_joined vs values.entries h.both.ids)) ∙ sym (there_versions (joined vs values.entries) (Some p)) ∙ s.0,
          s.2,
        )

    over : (p : ℕ) (v : Version) → parent ≡ Some p → entry_at plain (map seen vs) p ≡ Some v → (r : ℕ) → is_among label r ≡ true → is_among v.groups r ≡ true
    over p v e at r m =
        let s = under p e in
        let b = entry_seen vs p v at in
        let x = some_entry vs values.entries p b.0 h.both.ids b.1 in
        ap (λ (z : Version). is_among z.groups r) b.2 ∙ ap (λ (o : Option (Entry V)). is_among (groups_of o) r) (sym x.1) ∙ from_all (groups_of (entry_at kin (joined vs values.entries) p)) label s.1 r m

    rooted : (o : Option ℕ) → CanStand (tree vs values) o label → parent_there kin (joined vs values.entries) o ≡ true
    rooted None s = refl
    rooted (Some p) s = s.0

    -- the tree with the version
    pub added : (planted_ : List Branch) (value : V) (new : Branch) → IsLabel label → map seen planted_ ≡ map seen vs → AreReshaped (at_one parent (λ groups. planted groups label values.next)) vs planted_
        → seen new ≡ record { id = values.next; parent = parent; label = label; groups = [] } → shape_of new.below ≡ Nothing → IsTree (new ∷ planted_) (put_in values value)
    added planted_ value new is_label seen_is change new_is bare =
        let hung = added_tree vs planted_ values parent label new h (rises label is_label.rising) first child over seen_is change new_is bare in
        let same = joined_seen planted_ vs values.entries seen_is in
        let up : new.parent ≡ parent = ap (λ (z : Version). z.parent) new_is in
        record {
          both = record { ids = (ap (λ (z : Version). z.id) new_is, ids_seen vs planted_ values.entries (sym seen_is) h.both.ids); fall = (omega arith, h.both.fall) };
          rooted = (
            ap (parent_there kin (joined planted_ values.entries)) up ∙ ap (λ (l : List (Entry V)). parent_there kin l parent) same ∙ rooted parent stands,
            subst AreRooted (sym same) h.rooted,
          );
          family = hung.family;
          hung = hung.hung;
        }

    pub added_is : (planted_ : List Branch) (value : V) (new : Branch) → map seen planted_ ≡ map seen vs → seen new ≡ record { id = values.next; parent = parent; label = label; groups = [] }
        → tree (new ∷ planted_) (put_in values value) ≡ with_child (tree vs values) parent label value
    added_is planted_ value new seen_is new_is =
        ap (λ (l : List (Entry V)). let t : Grown V = record { entries = l; next = values.next + 1; bound = values.bound } in t)
        (ap (λ (z : Version). let x : Entry V = record { version = z; value = value } in x ∷ joined planted_ values.entries) new_is
        ∙ ap (λ (l : List (Entry V)). let x : Entry V = record { version = record { id = values.next; parent = parent; label = label; groups = [] }; value = value } in x ∷ l) (joined_seen planted_ vs values.entries seen_is))
