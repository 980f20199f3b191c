-- The root's child, which a finish makes the root: it is the only one, and is in conflict then exactly where it was before.
use Rattle.std.proofs.Common.{◌≡◌, ℕ, ◌<◌, Bool, true, false, cond, ◌==◌, List, [], ◌∷◌, map, Option, Some, None, is_some, refl, sym, ap, subst, ◌∙◌, arith, eq-eqb}
use Rattle.std.specs.Option.{option_map}
use Rattle.std.proofs.lemmas.Bool.{false≢true, true≢false}
use Rattle.std.proofs.lemmas.Bool.Decides.{nat_tests}
use Rattle.std.proofs.lemmas.Option.{same_Some, none-some}
use Rattle.sp_base.specs.Numbers.{is_among}
use Rattle.sp_plan.specs.declared.event.Event.{Event}
use Rattle.sp_plan.specs.declared.plan.Plan.{Plan}
use Rattle.sp_plan.specs.Runs.{State}
use Rattle.sp_version.specs.declared.version.Version.{Version}
use Rattle.sp_group.specs.Family.{entry_at, is_parent, kept, parent_there, prune}
use Rattle.sp_group.specs.Machine as machine
use Rattle.sp_group.specs.Machine.{inner, is_group, version_at}
use Rattle.sp_tree.specs.Changes.{promoted}
use Rattle.sp_tree.specs.Grown.{Entry, FallFrom, LacksChild, kin, lifted, root_in, with_version}
use Rattle.sp_rules.specs.Kept.{Child, Shape, Stands}
use Rattle.sp_core.specs.Holding.{version_of}
use Rattle.sp_core.proofs.Entries.{version_found}
use Rattle.sp_core.proofs.Pruning.{fall_pruned}
use Rattle.sp_core.proofs.Renewing.{at_entry}
use Rattle.sp_core.proofs.Roots.{Root, root_below}

-- an entry whose parent goes
abbrev pub orphaned : Entry Version → Entry Version
orphaned e = record { version = record e.version { parent = None }; value = e.value }

-- what an entry comes of that has no parent once the root has gone
pub data CameOf (root : ℕ) (x w : Entry Version) : Type 0 where
  orphan : (x.version.id == root) ≡ false → x.version.parent ≡ Some root → w ≡ orphaned x → CameOf root x w
  other : (x.version.id == root) ≡ false → w ≡ x → CameOf root x w

parent_is : (root : ℕ) (o : Option ℕ) → is_parent root o ≡ true → o ≡ Some root
parent_is root None h = absurd (cc)
parent_is root (Some p) h = let same : p ≡ root = grind (arith, nat_tests) in ap (λ n. Some n) same

pub came_of : (root : ℕ) (x w : Entry Version) → lifted (promoted root) x ≡ Some w → CameOf root x w
came_of root x w h = one (x.version.id == root) (is_parent root x.version.parent) refl refl h
  where
    one : (b p : Bool) → (x.version.id == root) ≡ b → is_parent root x.version.parent ≡ p
        → with_version x.value (cond b None (cond p (Some (record x.version { parent = None })) (Some x.version))) ≡ Some w → CameOf root x w
    one true p is child h = absurd (cc)
    one false true is child h = orphan is (parent_is root x.version.parent child) (sym (same_Some (orphaned x) w h))
    one false false is child h = other is (sym (same_Some x w h))

same_id : (root : ℕ) (x w : Entry Version) → CameOf root x w → w.version.id ≡ x.version.id
same_id root x w (orphan n p e) = ap (λ (z : Entry Version). z.version.id) e
same_id root x w (other n e) = ap (λ (z : Entry Version). z.version.id) e

-- the entries once the root has gone
abbrev pub popped_from : ℕ → List (Entry Version) → List (Entry Version)
popped_from root es = prune kin (lifted (promoted root)) es

-- an entry that is left comes of one
pub record From (root : ℕ) (es : List (Entry Version)) (id : ℕ) (w : Entry Version) : Type 0 where
  pub was : Entry Version
  pub is : entry_at kin es id ≡ Some was
  pub came : CameOf root was w
  pub below : (top : ℕ) → FallFrom top es → id < top

come_later : (root : ℕ) (x : Entry Version) (es : List (Entry Version)) (id : ℕ) (w : Entry Version) → FallFrom x.version.id es → From root es id w → From root (x ∷ es) id w
come_later root x es id w fall f =
    let less = f.below x.version.id fall in
    let apart : (x.version.id == id) ≡ false = grind (arith, nat_tests) in
    record {
      was = f.was;
      is = ap (λ b. cond b (Some x) (entry_at kin es id)) apart ∙ f.is;
      came = f.came;
      below = λ t h. let low = h.0 in omega arith;
    }

pub from : (root top : ℕ) (es : List (Entry Version)) (id : ℕ) (w : Entry Version) → FallFrom top es → entry_at kin (popped_from root es) id ≡ Some w
    → From root es id w
from root top [] id w fall at = absurd (none-some w at)
from root top (x ∷ es) id w fall at = one (lifted (promoted root) x) refl at (λ there. come_later root x es id w fall.1 (from root x.version.id es id w fall.1 there))
  where
    here : (y : Entry Version) → lifted (promoted root) x ≡ Some y → (b : Bool) → (y.version.id == id) ≡ b → cond b (Some y) (entry_at kin (popped_from root es) id) ≡ Some w
        → (entry_at kin (popped_from root es) id ≡ Some w → From root (x ∷ es) id w) → From root (x ∷ es) id w
    here y lift true is at later =
        let came = came_of root x w (lift ∙ at) in
        let own : y.version.id ≡ x.version.id = same_id root x y (came_of root x y lift) in
        let same : (x.version.id == id) ≡ true = grind (arith, nat_tests) in
        record {
          was = x;
          is = ap (λ b. cond b (Some x) (entry_at kin es id)) same;
          came = came;
          below = λ t h. let low = h.0 in grind (arith, nat_tests);
        }
    here y lift false is at later = later at

    two : (y : Entry Version) → lifted (promoted root) x ≡ Some y → (b : Bool) → entry_at kin (cond b (y ∷ popped_from root es) (popped_from root es)) id ≡ Some w
        → (entry_at kin (popped_from root es) id ≡ Some w → From root (x ∷ es) id w) → From root (x ∷ es) id w
    two y lift true at later = here y lift (y.version.id == id) refl at later
    two y lift false at later = later at

    one : (o : Option (Entry Version)) → lifted (promoted root) x ≡ o → entry_at kin (kept kin o (popped_from root es)) id ≡ Some w
        → (entry_at kin (popped_from root es) id ≡ Some w → From root (x ∷ es) id w) → From root (x ∷ es) id w
    one None lift at later = later at
    one (Some y) lift at later = two y lift (parent_there kin (popped_from root es) y.version.parent) at later

fall_popped : (root top : ℕ) (es : List (Entry Version)) → FallFrom top es → FallFrom top (popped_from root es)
fall_popped root top es fall = fall_pruned (lifted (promoted root)) (λ e new is. same_id root e new (came_of root e new is)) top es fall

-- a child of the root is left, and has no parent then
root_kept : (o : Option (Entry Version)) (es : List (Entry Version)) → is_some (root_in es) ≡ true → is_some (root_in (kept kin o es)) ≡ true
root_kept None es h = h
root_kept (Some y) es h = one (parent_there kin es y.version.parent) (is_some y.version.parent)
  where
    two : (p : Bool) → is_some (cond p (root_in es) (Some y.version.id)) ≡ true
    two true = h
    two false = refl

    one : (b p : Bool) → is_some (root_in (cond b (y ∷ es) es)) ≡ true
    one true p = two (is_some y.version.parent)
    one false p = h

pub root_stays : (root : ℕ) (es : List (Entry Version)) (id : ℕ) (e : Entry Version) → entry_at kin es id ≡ Some e → e.version.parent ≡ Some root
    → (e.version.id == root) ≡ false → is_some (root_in (popped_from root es)) ≡ true
root_stays root [] id e at child apart = absurd (none-some e at)
root_stays root (x ∷ es) id e at child apart = one (x.version.id == id) at (λ there. root_stays root es id e there child apart)
  where
    lift : (z : Entry Version) → z.version.parent ≡ Some root → (z.version.id == root) ≡ false → lifted (promoted root) z ≡ Some (orphaned z)
    lift z zp za = let same : (root == root) ≡ true = eq-eqb root root refl in rw (za, zp) (rw same refl)

    one : (b : Bool) → cond b (Some x) (entry_at kin es id) ≡ Some e → (entry_at kin es id ≡ Some e → is_some (root_in (popped_from root es)) ≡ true)
        → is_some (root_in (kept kin (lifted (promoted root) x) (popped_from root es))) ≡ true
    one true at rest =
        let same = same_Some x e at in
        ap (λ (o : Option (Entry Version)). is_some (root_in (kept kin o (popped_from root es))))
        (ap (lifted (promoted root)) same ∙ lift e child apart)
    one false at rest = root_kept (lifted (promoted root) x) (popped_from root es) (rest at)

module _ (q : Plan) (f : machine.Version → State) where
  -- the shape of the first entry, and of the others
  abbrev pub Shaped : ℕ → List (Entry Version) → Type 0
  Shaped finished es = Shape q f finished (map version_of es)

  empty : (es : List (Entry Version)) → map version_of es ≡ [] → es ≡ []
  empty [] h = refl
  empty (e ∷ es) h = absurd (cc)

  -- what has no parent is the root
  pub lone_root : (finished : ℕ) (es : List (Entry Version)) → Shaped finished es → (id : ℕ) (x : Entry Version) → entry_at kin es id ≡ Some x
      → x.version.parent ≡ None → root_in es ≡ Some x.version.id
  lone_root finished [] shape id x at none = absurd (none-some x at)
  lone_root finished (e ∷ es) shape id x at none = one e.version.parent refl shape.0.stands (e.version.id == id) at (λ there. lone_root finished es shape.1 id x there none)
    where
      two : (p : ℕ) → e.version.parent ≡ Some p → (b : Bool) → cond b (Some e) (entry_at kin es id) ≡ Some x
          → (entry_at kin es id ≡ Some x → root_in es ≡ Some x.version.id) → root_in es ≡ Some x.version.id
      two p is true at rest = absurd (none-some p (sym none ∙ ap (λ (z : Entry Version). z.version.parent) (sym (same_Some e x at)) ∙ is))
      two p is false at rest = rest at

      none_here : (b : Bool) → map version_of es ≡ [] → cond b (Some e) (entry_at kin es id) ≡ Some x → e ≡ x
      none_here true nothing at = same_Some e x at
      none_here false nothing at = absurd (none-some x (ap (λ (l : List (Entry Version)). entry_at kin l id) (sym (empty es nothing)) ∙ at))

      one : (o : Option ℕ) → e.version.parent ≡ o → Stands q f finished (map version_of es) (version_of e) o → (b : Bool)
          → cond b (Some e) (entry_at kin es id) ≡ Some x → (entry_at kin es id ≡ Some x → root_in es ≡ Some x.version.id)
          → cond (is_some e.version.parent) (root_in es) (Some e.version.id) ≡ Some x.version.id
      one None is st b at rest =
          ap (λ o. cond (is_some o) (root_in es) (Some e.version.id)) is ∙ ap (λ (z : Entry Version). Some z.version.id) (none_here b st.0 at)
      one (Some p) is st b at rest = ap (λ o. cond (is_some o) (root_in es) (Some e.version.id)) is ∙ two p is b at rest

  -- a parent has one child of a label
  pub lone_child : (finished : ℕ) (es : List (Entry Version)) → Shaped finished es → (a b p : ℕ) (x y : Entry Version) → entry_at kin es a ≡ Some x → entry_at kin es b ≡ Some y
      → x.version.parent ≡ Some p → y.version.parent ≡ Some p → x.version.label ≡ y.version.label → x ≡ y
  lone_child finished [] shape a b p x y at bt xp yp same = absurd (none-some x at)
  lone_child finished (e ∷ es) shape a b p x y at bt xp yp same =
      one (e.version.id == a) (e.version.id == b) at bt (λ there then. lone_child finished es shape.1 a b p x y there then xp yp same)
    where
      child : (z : Entry Version) → e ≡ z → z.version.parent ≡ Some p → Child q f (map version_of es) (version_of z) p
      child z is zp =
          subst (λ (o : Option ℕ). Stands q f finished (map version_of es) (version_of z) o) zp
          (subst (λ (z : Entry Version). Stands q f finished (map version_of es) (version_of z) z.version.parent) is shape.0.stands)

      other : (z w : Entry Version) (id : ℕ) → e ≡ z → z.version.parent ≡ Some p → entry_at kin es id ≡ Some w → w.version.parent ≡ Some p
          → w.version.label ≡ z.version.label → ⊥
      other z w id is zp there wp label = (child z is zp).apart id (version_of w) (version_found es id ∙ ap (option_map version_of) there) wp label

      one : (c d : Bool) → cond c (Some e) (entry_at kin es a) ≡ Some x → cond d (Some e) (entry_at kin es b) ≡ Some y
          → (entry_at kin es a ≡ Some x → entry_at kin es b ≡ Some y → x ≡ y) → x ≡ y
      one true true at bt rest = sym (same_Some e x at) ∙ same_Some e y bt
      one true false at bt rest = absurd (other x y b (same_Some e x at) xp bt yp (sym same))
      one false true at bt rest = absurd (other y x a (same_Some e y bt) yp at xp same)
      one false false at bt rest = rest at bt

  -- the parent of an entry, whose open groups its label names
  pub record Above (es : List (Entry Version)) (x : Entry Version) (p : ℕ) : Type 0 where
    pub parent : machine.Version
    pub is : version_at (map version_of es) p ≡ Some parent
    pub names : (r : ℕ) → is_among x.version.label r ≡ true → is_group q (f parent) r ≡ true
    pub less : p < x.version.id

  pub above : (finished : ℕ) (es : List (Entry Version)) → Shaped finished es → (id p : ℕ) (x : Entry Version) → entry_at kin es id ≡ Some x
      → x.version.parent ≡ Some p → Above es x p
  above finished [] shape id p x at xp = absurd (none-some x at)
  above finished (e ∷ es) shape id p x at xp = one (e.version.id == id) at (λ there. above finished es shape.1 id p x there xp)
    where
      skip : (u : machine.Version) → version_at (map version_of es) p ≡ Some u → p < e.version.id → version_at (map version_of (e ∷ es)) p ≡ Some u
      skip u there less =
          let apart : (e.version.id == p) ≡ false = grind (arith, nat_tests) in
          ap (λ b. cond b (Some (version_of e)) (version_at (map version_of es) p)) apart ∙ there

      one : (b : Bool) → cond b (Some e) (entry_at kin es id) ≡ Some x → (entry_at kin es id ≡ Some x → Above es x p) → Above (e ∷ es) x p
      one true at rest =
          let same = same_Some e x at in
          let child : Child q f (map version_of es) (version_of x) p =
          subst (λ (o : Option ℕ). Stands q f finished (map version_of es) (version_of x) o) xp
          (subst (λ (z : Entry Version). Stands q f finished (map version_of es) (version_of z) z.version.parent) same shape.0.stands) in
          let less = shape.0.newest p child.parent child.is in
          record {
            parent = child.parent;
            is = skip child.parent child.is less;
            names = child.names;
            less = subst (λ (z : Entry Version). p < z.version.id) same less;
          }
      one false at rest =
          let r = rest at in
          record {
            parent = r.parent;
            is = skip r.parent r.is (shape.0.newest p r.parent r.is);
            names = r.names;
            less = r.less;
          }

-- a version that is done has no open group
pub idle : (q : Plan) (events : List Event) (v : machine.Version) → v.done ≡ true → (n : ℕ) → is_group q (inner q events v) n ≡ false
idle q events v done n = rw done refl

no_name : (label : List ℕ) → ((r : ℕ) → is_among label r ≡ true → ⊥) → label ≡ []
no_name [] h = refl
no_name (n ∷ label) h = absurd (h n (let same : (n == n) ≡ true = eq-eqb n n refl in rw same refl))

lacks : (es : List (Entry Version)) (p id : ℕ) (x : Entry Version) → LacksChild es p [] → entry_at kin es id ≡ Some x → x.version.parent ≡ Some p → x.version.label ≡ [] → ⊥
lacks [] p id x none at child label = none-some x at
lacks (e ∷ es) p id x none at child label = one (e.version.id == id) at (λ there. lacks es p id x none.1 there child label)
  where
    one : (b : Bool) → cond b (Some e) (entry_at kin es id) ≡ Some x → (entry_at kin es id ≡ Some x → ⊥) → ⊥
    one true at rest =
        let same = same_Some e x at in
        none.0 (ap (λ (z : Entry Version). z.version.parent) same ∙ child, ap (λ (z : Entry Version). z.version.label) same ∙ label)
    one false at rest = rest at

-- the root of a tree is done
module _ (q : Plan) (events : List Event) (finished top : ℕ) (es : List (Entry Version)) (fall : FallFrom top es) (shape : Shape q (inner q events) finished (map version_of es))
    (root : ℕ) (rooted : root_in es ≡ Some root) (r : Root es root) (done : r.entry.value.done ≡ true) where
  unlabelled : (id : ℕ) (x : Entry Version) → entry_at kin es id ≡ Some x → x.version.parent ≡ Some root → x.version.label ≡ []
  unlabelled id x at child =
      let a = above q (inner q events) finished es shape id root x at child in
      let same : a.parent ≡ version_of r.entry = same_Some a.parent (version_of r.entry) (sym a.is ∙ version_found es root ∙ ap (option_map version_of) r.is) in
      no_name x.version.label
      (λ n named. true≢false (sym (a.names n named) ∙ ap (λ (u : machine.Version). is_group q (inner q events u) n) same ∙ idle q events (version_of r.entry) done n))

  -- the new root, and the child of the old one that it was
  pub record Heir (id : ℕ) : Type 0 where
    pub was : Entry Version
    pub is : entry_at kin es id ≡ Some was
    pub child : was.version.parent ≡ Some root
    pub label : was.version.label ≡ []
    pub new : entry_at kin (popped_from root es) id ≡ Some (orphaned was)
    pub version : machine.root_in (map version_of (popped_from root es)) ≡ Some (version_of (orphaned was))

  pub heir : (id : ℕ) → Root (popped_from root es) id → Heir id
  heir id n = let f = from root top es id n.entry fall n.is in one f.was f.is f.came
    where
      one : (x : Entry Version) → entry_at kin es id ≡ Some x → CameOf root x n.entry → Heir id
      one x at (orphan apart child same) = record {
        was = x;
        is = at;
        child = child;
        label = unlabelled id x at child;
        new = n.is ∙ ap (λ e. Some e) same;
        version = n.version ∙ ap (λ (e : Entry Version). Some (version_of e)) same;
      }
      one x at (other apart same) =
          let none : x.version.parent ≡ None = ap (λ (e : Entry Version). e.version.parent) (sym same) ∙ n.top in
          let own : x.version.id ≡ root = same_Some x.version.id root (sym (lone_root q (inner q events) finished es shape id x at none) ∙ rooted) in
          absurd (true≢false (sym (eq-eqb x.version.id root own) ∙ apart))

  -- where the root has no child, no root is left
  pub no_heir : LacksChild es root [] → root_in (popped_from root es) ≡ None
  no_heir none = one (root_in (popped_from root es)) refl
    where
      one : (o : Option ℕ) → root_in (popped_from root es) ≡ o → o ≡ None
      one None h = refl
      one (Some id) h =
          let n = (root_below top id (popped_from root es) (fall_popped root top es fall) h).0 in
          let x = heir id n in
          absurd (lacks es root id x.was none x.is x.child x.label)

  -- a child of the root with the empty label is the new root
  pub only_heir : (id : ℕ) (e : Entry Version) → entry_at kin es id ≡ Some e → e.version.parent ≡ Some root → e.version.label ≡ [] → Heir id
  only_heir id e at child label = one (root_in (popped_from root es)) refl
    where
      apart : (e.version.id == root) ≡ false
      apart = one (e.version.id == root) refl
        where
          one : (b : Bool) → (e.version.id == root) ≡ b → b ≡ false
          one true h =
              let a = above q (inner q events) finished es shape id root e at child in
              let less = a.less in
              absurd (grind (arith, nat_tests))
          one false h = refl

      one : (o : Option ℕ) → root_in (popped_from root es) ≡ o → Heir id
      one None h = absurd (false≢true (sym (ap is_some h) ∙ root_stays root es id e at child apart))
      one (Some new) h =
          let n = (root_below top new (popped_from root es) (fall_popped root top es fall) h).0 in
          let x = heir new n in
          let same : x.was ≡ e = lone_child q (inner q events) finished es shape new id root x.was e x.is at x.child child (x.label ∙ sym label) in
          let ids : new ≡ id = sym (at_entry es new x.was x.is) ∙ ap (λ (z : Entry Version). z.version.id) same ∙ at_entry es id e at in
          subst Heir ids x
