-- What hangs below a version, read: the path down to a child, and the children.
use Rattle.std.proofs.Common.{◌≡◌, ℕ, Bool, true, false, cond, ◌&&◌, ◌||◌, ◌==◌, List, [], ◌∷◌, filter, map, reverse, Option, Some, None, is_some, refl, sym, ap, subst, ◌∙◌, arith}
use Rattle.std.specs.List.Sorted.{IsPermutation, IsSorted}
use Rattle.std.specs.Ordering.{nat_cmp}
use Rattle.std.proofs.lemmas.List.Sorted.{IsPermutation-trans}
use Rattle.std.proofs.lemmas.Bool.{false≢true}
use Rattle.std.proofs.lemmas.Bool.Decides.{nat_tests}
use Rattle.std.proofs.lemmas.Option.{same_Some}
use Rattle.sp_base.specs.Numbers.{is_among}
use Rattle.sp_store.specs.Stored.{Stored}
use Rattle.sp_group.specs.declared.outcome.Outcome.TheVariants.{Completed, Abandoned}
use Rattle.sp_group.specs.Family.{entry_at, parent_there, is_parent}
use Rattle.sp_tree.specs.declared.version.Version.{Version as Branch}
use Rattle.sp_tree.specs.Version.{Version}
use Rattle.sp_tree.specs.Branches.{branches, seen}
use Rattle.sp_tree.specs.Children.{plain, children_of, IsRising}
use Rattle.sp_tree.specs.Shape.{shape_of, ids_below, way}
use Rattle.sp_tree.specs.Paths.{edge, completed_in, groups_above, ids_under, path_to}
use Rattle.sp_tree.specs.Grown.{Entry, kin, groups_of, label_of}
use Rattle.sp_tree.specs.Joined.{joined, IsTree}
use Rattle.sp_tree.proofs.Built.{way_built, Holds}
use Rattle.sp_tree.proofs.Families as f
use Rattle.sp_tree.proofs.Held.{rising_same, labels_rise, child_held, over_holds}
use Rattle.sp_tree.proofs.Counted.{apart_on, all_there, ids_of, AreFallingFrom, in_order, sorted_rises}
use Rattle.sp_tree.proofs.Renewed.{some_entry}
use Rattle.sp_tree.proofs.Seen.{seen_entry, seen_joined, versions_of, stands, version_rises}

same : (m n : ℕ) → (m == n) ≡ true → m ≡ n
same m n h = grind (arith, nat_tests)

-- the completed runs of a path
completed_edges : (label gs : List ℕ) → completed_in (map (edge label) gs) ≡ filter (λ r. is_among label r) gs
completed_edges label [] = refl
completed_edges label (g ∷ gs) = one (is_among label g) (completed_edges label gs)
  where
    one : (b : Bool) → completed_in (map (edge label) gs) ≡ filter (λ r. is_among label r) gs
        → completed_in (cond b (g, Completed) (g, Abandoned) ∷ map (edge label) gs) ≡ cond b (g ∷ filter (λ r. is_among label r) gs) (filter (λ r. is_among label r) gs)
    one true rest = ap (λ (l : List ℕ). g ∷ l) rest
    one false rest = rest

among_left : (p : ℕ → Bool) (gs : List ℕ) (r : ℕ) → is_among (filter p gs) r ≡ (is_among gs r && p r)
among_left p [] r = refl
among_left p (g ∷ gs) r = one (p g) refl (g == r) refl (among_left p gs r)
  where
    one : (b : Bool) → p g ≡ b → (c : Bool) → (g == r) ≡ c → is_among (filter p gs) r ≡ (is_among gs r && p r) → is_among (cond b (g ∷ filter p gs) (filter p gs)) r ≡ ((c || is_among gs r) && p r)
    one true e true is rest = ap (λ (b : Bool). b || is_among (filter p gs) r) is ∙ sym (ap p (sym (same g r is)) ∙ e)
    one true e false is rest = ap (λ (b : Bool). b || is_among (filter p gs) r) is ∙ rest
    one false e true is rest = rest ∙ two (is_among gs r) (p r) (ap p (sym (same g r is)) ∙ e) ∙ sym (ap p (sym (same g r is)) ∙ e)
      where
        two : (a b : Bool) → b ≡ false → (a && b) ≡ false
        two true b h = h
        two false b h = refl
    one false e false is rest = rest

left_within : (p : ℕ → Bool) (gs : List ℕ) (r : ℕ) → is_among (filter p gs) r ≡ true → is_among gs r ≡ true
left_within p gs r m = one (is_among gs r) refl
  where
    one : (b : Bool) → is_among gs r ≡ b → b ≡ true
    one true e = refl
    one false e = absurd (false≢true (sym (among_left p gs r ∙ ap (λ (b : Bool). b && p r) e) ∙ m))

rising_left : (p : ℕ → Bool) (gs : List ℕ) → IsRising gs → IsRising (filter p gs)
rising_left p [] up = tt
rising_left p (g ∷ gs) up = one (p g) (rising_left p gs up.1)
  where
    one : (b : Bool) → IsRising (filter p gs) → IsRising (cond b (g ∷ filter p gs) (filter p gs))
    one true rest = ((λ r m. up.0 r (left_within p gs r m)), rest)
    one false rest = rest

pub path_label : (label gs : List ℕ) → IsRising label → IsRising gs → ((r : ℕ) → is_among label r ≡ true → is_among gs r ≡ true) → completed_in (map (edge label) gs) ≡ label
path_label label gs low up over =
    completed_edges label gs ∙ rising_same (filter (λ r. is_among label r) gs) label (rising_left (λ r. is_among label r) gs up) low (λ r. among_left (λ r. is_among label r) gs r ∙ one r (is_among label r) refl)
  where
    two : (a : Bool) → (a && false) ≡ false
    two true = refl
    two false = refl

    one : (r : ℕ) (b : Bool) → is_among label r ≡ b → (is_among gs r && b) ≡ b
    one r true e = ap (λ (a : Bool). a && true) (over r e)
    one r false e = two (is_among gs r)

-- nobody's parent is an id that is not there
pub none_of_lost : (vs : List Version) (id : ℕ) → f.AreRooted vs → entry_at plain vs id ≡ None → f.AreNone id vs
none_of_lost [] id r h = tt
none_of_lost (v ∷ vs) id r h = one (v.id == id) h (none_of_lost vs id r.1)
  where
    two : (b : Bool) → is_parent id v.parent ≡ b → entry_at plain vs id ≡ None → b ≡ false
    two true is none =
        absurd (false≢true (sym (ap is_some none) ∙ ap (λ (o : Option ℕ). parent_there plain vs o) (sym (f.is_parent_is id v.parent is)) ∙ r.0))
    two false is none = refl

    one : (a : Bool) → cond a (Some v) (entry_at plain vs id) ≡ None → (entry_at plain vs id ≡ None → f.AreNone id vs) → (is_parent id v.parent ≡ false) × f.AreNone id vs
    one true e rest = absurd (cc)
    one false e rest = (two (is_parent id v.parent) refl e, rest e)

ids_fall : (p top : ℕ) (vs : List Version) → f.Falls top vs → AreFallingFrom top (ids_of (children_of p vs))
ids_fall p top [] h = tt
ids_fall p top (v ∷ vs) h = one (is_parent p v.parent) (ids_fall p v.id vs h.1) (lower (ids_of (children_of p vs)))
  where
    lower : (ns : List ℕ) → AreFallingFrom v.id ns → AreFallingFrom top ns
    lower [] f = tt
    lower (n ∷ ns) f = (let a = f.0 in let b = h.0 in omega arith, f.1)

    one : (b : Bool) → AreFallingFrom v.id (ids_of (children_of p vs)) → (AreFallingFrom v.id (ids_of (children_of p vs)) → AreFallingFrom top (ids_of (children_of p vs)))
        → AreFallingFrom top (ids_of (cond b ((v.label, v.id) ∷ children_of p vs) (children_of p vs)))
    one true rest low = (h.0, rest)
    one false rest low = low rest

seen_none : (vs : List Branch) (id : ℕ) → entry_at branches vs id ≡ None → entry_at plain (map seen vs) id ≡ None
seen_none [] id h = refl
seen_none (v ∷ vs) id h = one (v.id == id) h (seen_none vs id)
  where
    one : (b : Bool) → cond b (Some v) (entry_at branches vs id) ≡ None → (entry_at branches vs id ≡ None → entry_at plain (map seen vs) id ≡ None) → cond b (Some (seen v)) (entry_at plain (map seen vs) id) ≡ None
    one true e rest = absurd (cc)
    one false e rest = rest e

-- the parent of a version is there
there_up : (vs : List Version) (id p : ℕ) (v : Version) → f.AreRooted vs → entry_at plain vs id ≡ Some v → v.parent ≡ Some p → is_some (entry_at plain vs p) ≡ true
there_up [] id p v r at up = absurd (cc)
there_up (x ∷ vs) id p v r at up = more (x.id == p) (one (x.id == id) at (there_up vs id p v r.1))
  where
    more : (b : Bool) → is_some (entry_at plain vs p) ≡ true → is_some (cond b (Some x) (entry_at plain vs p)) ≡ true
    more true e = refl
    more false e = e

    one : (b : Bool) → cond b (Some x) (entry_at plain vs id) ≡ Some v → (entry_at plain vs id ≡ Some v → v.parent ≡ Some p → is_some (entry_at plain vs p) ≡ true) → is_some (entry_at plain vs p) ≡ true
    one true e rest = ap (λ (o : Option ℕ). parent_there plain vs o) (sym (ap (λ (z : Version). z.parent) (same_Some x v e) ∙ up)) ∙ r.0
    one false e rest = rest e up

module _ {V : Type 0} where
  ids_children : (p : ℕ) (es : List (Entry V)) → ids_of (children_of p (versions_of es)) ≡ map (λ e. e.version.id) (filter (λ e. is_parent p e.version.parent) es)
  ids_children p [] = refl
  ids_children p (e ∷ es) = one (is_parent p e.version.parent) (ids_children p es)
    where
      one : (b : Bool) → ids_of (children_of p (versions_of es)) ≡ map (λ e. e.version.id) (filter (λ e. is_parent p e.version.parent) es)
          → ids_of (cond b ((e.version.label, e.version.id) ∷ children_of p (versions_of es)) (children_of p (versions_of es)))
          ≡ map (λ e. e.version.id) (cond b (e ∷ filter (λ e. is_parent p e.version.parent) es) (filter (λ e. is_parent p e.version.parent) es))
      one true rest = ap (λ (l : List ℕ). e.version.id ∷ l) rest
      one false rest = rest

  pub under_is : (vs : List Branch) (values : Stored V) (id : ℕ) → IsTree vs values → reverse (ids_of (children_of id (map seen vs))) ≡ ids_under (joined vs values.entries) id
  under_is vs values id h =
      ap (λ (l : List Version). reverse (ids_of (children_of id l))) (sym (seen_joined vs values.entries h.both.ids)) ∙ ap reverse (ids_children id (joined vs values.entries))

  -- the children of a version that is there
  pub children_read : (vs : List Branch) (values : Stored V) (id : ℕ) (v : Branch) (sorted : List ℕ) → IsTree vs values → entry_at branches vs id ≡ Some v → IsPermutation (ids_below (shape_of v.below)) sorted → IsSorted nat_cmp sorted
      → sorted ≡ ids_under (joined vs values.entries) id
  children_read vs values id v sorted h at perm up =
      let s = stands vs values h.both h.rooted in
      let held = h.family.held id (seen v) (seen_entry vs id v at) in
      let cs = children_of id (map seen vs) in
      let whole = all_there v.groups cs (apart_on v.groups cs held.over (labels_rise id (map seen vs) h.family.rising) held.apart) in
      let ids : IsPermutation (ids_of cs) (ids_below (shape_of v.below)) = subst (IsPermutation (ids_of cs)) (ap ids_below (sym (h.hung id v at))) whole in
      let all = IsPermutation-trans (ids_of cs) (ids_below (shape_of v.below)) sorted ids perm in
      let fall = ids_fall id values.next (map seen vs) s.falls in
      in_order values.next (ids_of cs) sorted fall all (sorted_rises values.next (ids_of cs) sorted fall all up)
      ∙ under_is vs values id h

  pub children_none : (vs : List Branch) (values : Stored V) (id : ℕ) → IsTree vs values → entry_at branches vs id ≡ None → [] ≡ ids_under (joined vs values.entries) id
  children_none vs values id h none =
      let s = stands vs values h.both h.rooted in
      ap (λ (l : List (List ℕ × ℕ)). reverse (ids_of l)) (sym (f.no_children id (map seen vs) (none_of_lost (map seen vs) id s.rooted (seen_none vs id none)))) ∙ under_is vs values id h

  pub parent_live : (vs : List Branch) (values : Stored V) (id p : ℕ) (v : Branch) → IsTree vs values → entry_at branches vs id ≡ Some v → v.parent ≡ Some p → entry_at branches vs p ≡ None → ⊥
  parent_live vs values id p v h at up none =
      let s = stands vs values h.both h.rooted in
      false≢true (sym (ap is_some (seen_none vs p none)) ∙ there_up (map seen vs) id p (seen v) s.rooted (seen_entry vs id v at) up)

  -- the path down to a child
  module _ (vs : List Branch) (values : Stored V) (id p : ℕ) (v above : Branch) (h : IsTree vs values) (at : entry_at branches vs id ≡ Some v) (up : v.parent ≡ Some p) (there : entry_at branches vs p ≡ Some above) where
    held : Holds v.label id (children_of p (map seen vs))
    held = child_held (map seen vs) id p (seen v) (seen_entry vs id v at) up

    edges : way v.label (shape_of above.below) ≡ map (edge v.label) above.groups
    edges = ap (way v.label) (h.hung p above there) ∙ way_built v.label id above.groups (children_of p (map seen vs)) held

    pub path_edges : way v.label (shape_of above.below) ≡ path_to (joined vs values.entries) (entry_at kin (joined vs values.entries) id)
    path_edges =
        let mine = some_entry vs values.entries id v h.both.ids at in
        let over = some_entry vs values.entries p above h.both.ids there in
        edges
        ∙ sym (ap (path_to (joined vs values.entries)) mine.1
        ∙ ap (λ (o : Option ℕ). map (edge v.label) (groups_above (joined vs values.entries) o)) up
        ∙ ap (λ (o : Option (Entry V)). map (edge v.label) (groups_of o)) over.1)

    pub path_labels : Some (completed_in (way v.label (shape_of above.below))) ≡ label_of (entry_at kin (joined vs values.entries) id)
    path_labels =
        let mine = some_entry vs values.entries id v h.both.ids at in
        let low = version_rises vs id v h.family.rising at in
        let high = version_rises vs p above h.family.rising there in
        let over = over_holds above.groups v.label id (children_of p (map seen vs)) (h.family.held p (seen above) (seen_entry vs p above there)).over held in
        ap (λ (l : List ℕ). Some l) (ap completed_in edges ∙ path_label v.label above.groups low.0 high.1 over) ∙ sym (ap label_of mine.1)
