-- The code's versions beside what callers see of them, and how the shapes below them change.
use Rattle.std.proofs.Common.{◌≡◌, ◌≢◌, ◌⊎◌, inl, inr, ℕ, zero, suc, ◌<◌, Bool, true, false, cond, ◌==◌, List, [], ◌∷◌, length, map, get_or, set, remove, Option, Some, None, is_some, refl, sym, ap, subst, ◌∙◌, arith, eq-eqb}
use Rattle.std.proofs.lemmas.Bool.{false≢true}
use Rattle.std.proofs.lemmas.Bool.Decides.{nat_tests}
use Rattle.std.proofs.lemmas.List.{get_or_default}
use Rattle.std.proofs.lemmas.Option.{same_Some}
use Rattle.sp_store.specs.Stored.{Stored}
use Rattle.sp_group.specs.Family.{entry_at, parent_there, kept, prune}
use Rattle.sp_tree.specs.declared.version.Version.{Version as Branch}
use Rattle.sp_tree.specs.Version.{Version}
use Rattle.sp_tree.specs.Branches.{branches, seen, Falls, AreFalling, AreReshaped, at_one, kept_shape}
use Rattle.sp_tree.specs.Children.{plain, AreRising, IsRising}
use Rattle.sp_tree.specs.Shape.{Shape, shape_of}
use Rattle.sp_tree.specs.Grown.{Entry, AreRooted, kin, lifted, with_version}
use Rattle.sp_tree.specs.Joined.{joined, HaveIds, AreJoined}
use Rattle.sp_tree.proofs.Searched.{all_below, falls_from}
use Rattle.sp_tree.proofs.Families as f

same : (m n : ℕ) → (m == n) ≡ true → m ≡ n
same m n h = grind (arith, nat_tests)

differs : (m n : ℕ) → m ≢ n → (m == n) ≡ false
differs m n h = grind (arith, nat_tests)

apart : (m n : ℕ) → (m == n) ≡ false → m ≢ n
apart m n h = λ e. false≢true (sym h ∙ eq-eqb m n e)

pub seen_entry : (vs : List Branch) (id : ℕ) (v : Branch) → entry_at branches vs id ≡ Some v → entry_at plain (map seen vs) id ≡ Some (seen v)
seen_entry [] id v h = absurd (cc)
seen_entry (x ∷ vs) id v h = one (x.id == id) h (seen_entry vs id v)
  where
    one : (b : Bool) → cond b (Some x) (entry_at branches vs id) ≡ Some v → (entry_at branches vs id ≡ Some v → entry_at plain (map seen vs) id ≡ Some (seen v))
        → cond b (Some (seen x)) (entry_at plain (map seen vs) id) ≡ Some (seen v)
    one true h rest = ap (λ (z : Branch). Some (seen z)) (same_Some x v h)
    one false h rest = rest h

pub entry_seen : (vs : List Branch) (id : ℕ) (v : Version) → entry_at plain (map seen vs) id ≡ Some v → (b : Branch) × (entry_at branches vs id ≡ Some b) × (v ≡ seen b)
entry_seen [] id v h = absurd (cc)
entry_seen (x ∷ vs) id v h = one (x.id == id) h (entry_seen vs id v)
  where
    one : (b : Bool) → cond b (Some (seen x)) (entry_at plain (map seen vs) id) ≡ Some v
        → (entry_at plain (map seen vs) id ≡ Some v → (c : Branch) × (entry_at branches vs id ≡ Some c) × (v ≡ seen c))
        → (c : Branch) × (cond b (Some x) (entry_at branches vs id) ≡ Some c) × (v ≡ seen c)
    one true h rest = (x, refl, sym (same_Some (seen x) v h))
    one false h rest = rest h

-- the same version of an id
pub seen_same : (vs : List Branch) (id : ℕ) (v : Branch) (x : Version) → entry_at branches vs id ≡ Some v → entry_at plain (map seen vs) id ≡ Some x → x ≡ seen v
seen_same vs id v x h k = same_Some x (seen v) (sym k ∙ seen_entry vs id v h)

pub falls_seen : (top : ℕ) (vs : List Branch) → Falls top vs → f.Falls top (map seen vs)
falls_seen top [] h = tt
falls_seen top (v ∷ vs) h = (h.0, falls_seen v.id vs h.1)

-- the label and the groups of a version that is there rise
pub version_rises : (vs : List Branch) (id : ℕ) (v : Branch) → AreRising (map seen vs) → entry_at branches vs id ≡ Some v → IsRising v.label × IsRising v.groups
version_rises [] id v up at = absurd (cc)
version_rises (x ∷ vs) id v up at = one (x.id == id) at (version_rises vs id v up.2)
  where
    one : (b : Bool) → cond b (Some x) (entry_at branches vs id) ≡ Some v → (entry_at branches vs id ≡ Some v → IsRising v.label × IsRising v.groups) → IsRising v.label × IsRising v.groups
    one true h rest = subst (λ (z : Branch). IsRising z.label × IsRising z.groups) (same_Some x v h) (up.0, up.1)
    one false h rest = rest h

-- what stands of a tree at the level of versions
pub record Stands (vs : List Branch) (next : ℕ) : Type 0 where
  pub falls : f.Falls next (map seen vs)
  pub rooted : f.AreRooted (map seen vs)
  pub younger : f.AreYounger (map seen vs)

module _ {V : Type 0} where
  abbrev pub versions_of : List (Entry V) → List Version
  versions_of es = map (λ e. e.version) es

  pub seen_joined : (vs : List Branch) (es : List (ℕ × V)) → HaveIds vs es → versions_of (joined vs es) ≡ map seen vs
  seen_joined [] [] h = refl
  seen_joined [] (e ∷ es) h = absurd h
  seen_joined (v ∷ vs) [] h = absurd h
  seen_joined (v ∷ vs) (e ∷ es) h = ap (λ (l : List Version). seen v ∷ l) (seen_joined vs es h.1)

  some_same : (b : Bool) (e : Entry V) (v : Version) (o : Option (Entry V)) (q : Option Version) → is_some o ≡ is_some q → is_some (cond b (Some e) o) ≡ is_some (cond b (Some v) q)
  some_same true e v o q h = refl
  some_same false e v o q h = h

  pub there_versions : (es : List (Entry V)) (p : Option ℕ) → parent_there kin es p ≡ parent_there plain (versions_of es) p
  there_versions es None = refl
  there_versions es (Some p) = at es
    where
      at : (es : List (Entry V)) → is_some (entry_at kin es p) ≡ is_some (entry_at plain (versions_of es) p)
      at [] = refl
      at (e ∷ es) = some_same (e.version.id == p) e e.version (entry_at kin es p) (entry_at plain (versions_of es) p) (at es)

  kept_versions : (o : Option Version) (v : V) (es : List (Entry V)) → versions_of (kept kin (with_version v o) es) ≡ kept plain o (versions_of es)
  kept_versions None v es = refl
  kept_versions (Some w) v es = one (parent_there kin es w.parent) (parent_there plain (versions_of es) w.parent) (there_versions es w.parent)
    where
      one : (a b : Bool) → a ≡ b → versions_of (cond a (record { version = w; value = v } ∷ es) es) ≡ cond b (w ∷ versions_of es) (versions_of es)
      one true true e = refl
      one false false e = refl
      one true false e = absurd (false≢true (sym e))
      one false true e = absurd (false≢true e)

  pub prune_versions : (rule : Version → Option Version) (es : List (Entry V)) → versions_of (prune kin (lifted rule) es) ≡ prune plain rule (versions_of es)
  prune_versions rule [] = refl
  prune_versions rule (e ∷ es) =
      kept_versions (rule e.version) e.value (prune kin (lifted rule) es) ∙ ap (kept plain (rule e.version)) (prune_versions rule es)

  pub rooted_versions : (es : List (Entry V)) → AreRooted es → f.AreRooted (versions_of es)
  rooted_versions [] h = tt
  rooted_versions (e ∷ es) h = (sym (there_versions es e.version.parent) ∙ h.0, rooted_versions es h.1)

  pub entry_versions : (es : List (Entry V)) (id : ℕ) (e : Entry V) → entry_at kin es id ≡ Some e → entry_at plain (versions_of es) id ≡ Some e.version
  entry_versions [] id e h = absurd (cc)
  entry_versions (x ∷ es) id e h = one (x.version.id == id) h (entry_versions es id e)
    where
      one : (b : Bool) → cond b (Some x) (entry_at kin es id) ≡ Some e → (entry_at kin es id ≡ Some e → entry_at plain (versions_of es) id ≡ Some e.version)
          → cond b (Some x.version) (entry_at plain (versions_of es) id) ≡ Some e.version
      one true h rest = ap (λ (z : Entry V). Some z.version) (same_Some x e h)
      one false h rest = rest h

  pub stands : (vs : List Branch) (values : Stored V) → AreJoined vs values → AreRooted (joined vs values.entries) → Stands vs values.next
  stands vs values h r =
      let falls = falls_seen values.next vs (falls_from values.next vs values.entries h.ids h.fall) in
      let rooted = subst f.AreRooted (seen_joined vs values.entries h.ids) (rooted_versions (joined vs values.entries) r) in
      record { falls = falls; rooted = rooted; younger = f.younger values.next (map seen vs) falls rooted }

-- a version written at an index
pub set_entry : (top : ℕ) (vs : List Branch) (i : ℕ) (w : Branch) → Falls top vs → i < length vs → ((d : Branch) → w.id ≡ (get_or vs i d).id) → (id : ℕ) (x : Branch) → entry_at branches (set vs i w) id ≡ Some x
    → ((id ≡ w.id) × (x ≡ w) × ((d : Branch) → entry_at branches vs id ≡ Some (get_or vs i d))) ⊎ ((id ≢ w.id) × (entry_at branches vs id ≡ Some x))
set_entry top [] i w h within is id x at = absurd (omega arith)
set_entry top (v ∷ vs) zero w h within is id x at = one (w.id == id) refl at
  where
    one : (b : Bool) → (w.id == id) ≡ b → cond b (Some w) (entry_at branches vs id) ≡ Some x
        → ((id ≡ w.id) × (x ≡ w) × ((d : Branch) → entry_at branches (v ∷ vs) id ≡ Some v)) ⊎ ((id ≢ w.id) × (entry_at branches (v ∷ vs) id ≡ Some x))
    one true e at =
        let here = same w.id id e in
        inl (sym here, sym (same_Some w x at), (λ d. ap (λ (b : Bool). cond b (Some v) (entry_at branches vs id)) (ap (λ (n : ℕ). n == id) (sym (is v)) ∙ e)))
    one false e at =
        inr ((λ z. apart w.id id e (sym z)), ap (λ (b : Bool). cond b (Some v) (entry_at branches vs id)) (ap (λ (n : ℕ). n == id) (sym (is v)) ∙ e) ∙ at)
set_entry top (v ∷ vs) (suc i) w h within is id x at = one (v.id == id) refl at (set_entry v.id vs i w h.1 (omega arith) is id x)
  where
    below : (d : Branch) → (get_or vs i d).id < v.id
    below d = all_below v.id vs h.1 i d (omega arith)

    later : ((id ≡ w.id) × (x ≡ w) × ((d : Branch) → entry_at branches vs id ≡ Some (get_or vs i d))) ⊎ ((id ≢ w.id) × (entry_at branches vs id ≡ Some x)) → (v.id == id) ≡ false
        → ((id ≡ w.id) × (x ≡ w) × ((d : Branch) → entry_at branches (v ∷ vs) id ≡ Some (get_or vs i d))) ⊎ ((id ≢ w.id) × (entry_at branches (v ∷ vs) id ≡ Some x))
    later (inl r) e = inl (r.0, r.1, (λ d. ap (λ (b : Bool). cond b (Some v) (entry_at branches vs id)) e ∙ r.2 d))
    later (inr r) e = inr (r.0, ap (λ (b : Bool). cond b (Some v) (entry_at branches vs id)) e ∙ r.1)

    one : (b : Bool) → (v.id == id) ≡ b → cond b (Some v) (entry_at branches (set vs i w) id) ≡ Some x
        → (entry_at branches (set vs i w) id ≡ Some x → ((id ≡ w.id) × (x ≡ w) × ((d : Branch) → entry_at branches vs id ≡ Some (get_or vs i d))) ⊎ ((id ≢ w.id) × (entry_at branches vs id ≡ Some x)))
        → ((id ≡ w.id) × (x ≡ w) × ((d : Branch) → entry_at branches (v ∷ vs) id ≡ Some (get_or vs i d))) ⊎ ((id ≢ w.id) × (entry_at branches (v ∷ vs) id ≡ Some x))
    one true e at rest =
        let here = same v.id id e in
        let low = below v in let mine = is v in
        inr ((λ z. omega arith), ap (λ (b : Bool). cond b (Some v) (entry_at branches vs id)) e ∙ at)
    one false e at rest = later (rest at) e

-- the shape below one version changes
pub reshaped_at : (vs : List Branch) (i : ℕ) (v w : Branch) (change : List ℕ → Shape → Shape) → AreFalling vs → i < length vs → v ≡ get_or vs i v → w.id ≡ v.id → shape_of w.below ≡ change v.groups (shape_of v.below)
    → AreReshaped (at_one (Some v.id) change) vs (set vs i w)
reshaped_at vs i v w change h within read id_is shape id x at =
    one (set_entry h.top vs i w h.falls within (λ d. id_is ∙ ap (λ (z : Branch). z.id) (read ∙ get_or_default vs i v d within)) id x at)
  where
    one : ((id ≡ w.id) × (x ≡ w) × ((d : Branch) → entry_at branches vs id ≡ Some (get_or vs i d))) ⊎ ((id ≢ w.id) × (entry_at branches vs id ≡ Some x))
        → (b : Branch) × (entry_at branches vs id ≡ Some b) × (shape_of x.below ≡ at_one (Some v.id) change id b.groups (shape_of b.below))
    one (inl r) = (
      v,
      r.2 v ∙ ap (λ (z : Branch). Some z) (sym read),
      ap (λ (z : Branch). shape_of z.below) r.1 ∙ shape ∙ ap (λ (b : Bool). cond b (change v.groups (shape_of v.below)) (shape_of v.below)) (sym (eq-eqb v.id id (sym (r.0 ∙ id_is)))),
    )
    one (inr r) = (x, r.1, ap (λ (b : Bool). cond b (change x.groups (shape_of x.below)) (shape_of x.below)) (sym (differs v.id id (λ z. r.0 (sym (id_is ∙ z))))))

-- no shape changes
pub reshaped_none : (vs : List Branch) → AreReshaped kept_shape vs vs
reshaped_none vs = λ id w h. (w, h, refl)

pub reshaped_set : (was vs : List Branch) (i : ℕ) (w : Branch) → AreFalling vs → i < length vs → ((d : Branch) → w.id ≡ (get_or vs i d).id) → ((d : Branch) → w.below ≡ (get_or vs i d).below)
    → AreReshaped kept_shape was vs → AreReshaped kept_shape was (set vs i w)
reshaped_set was vs i w h within id_is below before id x at = one (set_entry h.top vs i w h.falls within id_is id x at)
  where
    one : ((id ≡ w.id) × (x ≡ w) × ((d : Branch) → entry_at branches vs id ≡ Some (get_or vs i d))) ⊎ ((id ≢ w.id) × (entry_at branches vs id ≡ Some x))
        → (b : Branch) × (entry_at branches was id ≡ Some b) × (shape_of x.below ≡ shape_of b.below)
    one (inl r) = let o = before id (get_or vs i w) (r.2 w) in (o.0, o.1, ap (λ (z : Branch). shape_of z.below) r.1 ∙ ap shape_of (below w) ∙ o.2)
    one (inr r) = before id x r.1

-- a version is removed
pub removed_entry : (top : ℕ) (vs : List Branch) (i : ℕ) → Falls top vs → i < length vs → (id : ℕ) (x : Branch) → entry_at branches (remove vs i) id ≡ Some x → entry_at branches vs id ≡ Some x
removed_entry top [] i h within id x at = absurd (omega arith)
removed_entry top (v ∷ vs) zero h within id x at =
    let low = there_below v.id vs id h.1 (ap is_some at) in
    ap (λ (b : Bool). cond b (Some v) (entry_at branches vs id)) (differs v.id id (λ e. omega arith)) ∙ at
  where
    there_below : (top : ℕ) (vs : List Branch) (id : ℕ) → Falls top vs → is_some (entry_at branches vs id) ≡ true → id < top
    there_below top [] id f h = absurd (false≢true h)
    there_below top (v ∷ vs) id f h = go (v.id == id) refl h (there_below v.id vs id f.1)
      where
        go : (b : Bool) → (v.id == id) ≡ b → is_some (cond b (Some v) (entry_at branches vs id)) ≡ true → (is_some (entry_at branches vs id) ≡ true → id < v.id) → id < top
        go true is h rest = let low = f.0 in let e = same v.id id is in omega arith
        go false is h rest = let low = f.0 in let n = rest h in omega arith
removed_entry top (v ∷ vs) (suc i) h within id x at = one (v.id == id) at (removed_entry v.id vs i h.1 (omega arith) id x)
  where
    one : (b : Bool) → cond b (Some v) (entry_at branches (remove vs i) id) ≡ Some x → (entry_at branches (remove vs i) id ≡ Some x → entry_at branches vs id ≡ Some x)
        → cond b (Some v) (entry_at branches vs id) ≡ Some x
    one true at rest = at
    one false at rest = rest at

pub reshaped_removed : (was vs : List Branch) (i : ℕ) → AreFalling vs → i < length vs → AreReshaped kept_shape was vs → AreReshaped kept_shape was (remove vs i)
reshaped_removed was vs i h within before = λ id x at. before id x (removed_entry h.top vs i h.falls within id x at)
