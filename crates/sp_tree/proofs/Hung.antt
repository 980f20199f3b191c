-- Below each version hangs what its open groups and its children call for, after each call.
use Rattle.std.proofs.Common.{◌≡◌, ◌≢◌, ◌⊎◌, inl, inr, ℕ, zero, suc, ◌+◌, ◌<◌, ◌≤◌, Bool, true, false, cond, not, ◌||◌, ◌==◌, List, [], ◌∷◌, length, map, get_or, set, Option, Some, None, is_some, refl, sym, ap, subst, ◌∙◌, arith, eq-eqb}
use Rattle.std.specs.Prelude.{is_none}
use Rattle.std.proofs.lemmas.Bool.{false≢true}
use Rattle.std.proofs.lemmas.Bool.Decides.{nat_tests}
use Rattle.std.proofs.lemmas.List.{get_or_default}
use Rattle.std.proofs.lemmas.Option.{same_Some}
use Rattle.sp_base.specs.Numbers.{is_among}
use Rattle.sp_group.specs.declared.outcome.Outcome.{Outcome}
use Rattle.sp_group.specs.Deciding.{others}
use Rattle.sp_group.specs.Family.{entry_at, parent_there, kept, prune, is_parent}
use Rattle.sp_tree.specs.declared.version.Version.{Version as Branch}
use Rattle.sp_tree.specs.Version.{Version}
use Rattle.sp_tree.specs.Changes.{decided, but, promoted}
use Rattle.sp_tree.specs.Branches.{branches, seen, AreFalling, AreHung, AreReshaped, at_one, kept_shape}
use Rattle.sp_tree.specs.Children.{plain, children_of, AreHeld, AreFamily, AreRising, IsRising}
use Rattle.sp_tree.specs.Shape.{Nothing, shape_of, built, cut, filled, planted, renumbered, children_decided, children_but}
use Rattle.sp_tree.proofs.Built.{planted_built, filled_built, Grows, cut_built, IsOnce, renumbered_built}
use Rattle.sp_tree.proofs.Families.{Falls, AreYounger, there_below, pruned_entry, children_pruned, none_pruned, none_above, no_children, not_parent, but_keeps, but_parents, but_same, ruled_but, promoted_keeps, promoted_parents, promoted_groups, ruled_promoted, HasNone}
use Rattle.sp_tree.proofs.Held.{WasDecided, was_decided, entry_id, held_more, held_renumbered, child_held, child_only, roots, roots_pruned, rising_pruned}
use Rattle.sp_tree.proofs.Seen.{seen_entry, entry_seen, seen_same, set_entry}

same : (m n : ℕ) → (m == n) ≡ true → m ≡ n
same m n h = grind (arith, nat_tests)

differs : (m n : ℕ) → m ≢ n → (m == n) ≡ false
differs m n h = grind (arith, nat_tests)

apart : (m n : ℕ) → (m == n) ≡ false → m ≢ n
apart m n h = λ e. false≢true (sym h ∙ eq-eqb m n e)

-- a group is decided
pub hung_decided : (owner run : ℕ) (outcome : Outcome) (top : ℕ) (was cutted now : List Branch) → Falls top (map seen was) → AreYounger (map seen was) → AreHung was
    → AreReshaped (at_one (Some owner) (λ groups. cut run outcome)) was cutted → AreReshaped kept_shape cutted now → map seen now ≡ prune plain (decided owner run outcome) (map seen was)
    → ((v : Branch) → entry_at branches was owner ≡ Some v → IsOnce run v.groups) → AreHung now
hung_decided owner run outcome top was cutted now f y hung change carried seen_is once = λ id w at.
    let c = carried id w at in
    let d = change id c.0 c.1 in
    let there = subst (λ (l : List Version). entry_at plain l id ≡ Some (seen w)) seen_is (seen_entry now id w at) in
    let r = was_decided owner run outcome top (map seen was) f y id (seen w) there in
    go id w d.0 d.1 (c.2 ∙ d.2) r (seen_same was id d.0 r.was d.1 r.there) (owner == id) refl
  where
    go : (id : ℕ) (w v : Branch) → entry_at branches was id ≡ Some v → shape_of w.below ≡ at_one (Some owner) (λ groups. cut run outcome) id v.groups (shape_of v.below)
        → (r : WasDecided owner run outcome (map seen was) id (seen w)) → r.was ≡ seen v → (b : Bool) → (owner == id) ≡ b → shape_of w.below ≡ built w.groups (children_of id (map seen now))
    go id w v at shape r e true is =
        let m = r.mine is in
        let here = subst (λ (n : ℕ). entry_at branches was n ≡ Some v) (sym (same owner id is)) at in
        shape ∙ ap (λ (b : Bool). cond b (cut run outcome (shape_of v.below)) (shape_of v.below)) is
        ∙ ap (cut run outcome) (hung id v at) ∙ cut_built run outcome v.groups (children_of id (map seen was)) (once v here)
        ∙ ap (λ (l : List ℕ). built l (children_decided run outcome (children_of id (map seen was)))) (sym (m.0 ∙ ap (λ (z : Version). others run z.groups) e))
        ∙ ap (built w.groups) (sym m.1) ∙ ap (λ (l : List Version). built w.groups (children_of id l)) (sym seen_is)
    go id w v at shape r e false is =
        let m = r.other is in
        shape ∙ ap (λ (b : Bool). cond b (cut run outcome (shape_of v.below)) (shape_of v.below)) is
        ∙ hung id v at
        ∙ ap (λ (l : List ℕ). built l (children_of id (map seen was))) (sym (m.0 ∙ ap (λ (z : Version). z.groups) e))
        ∙ ap (built w.groups) (sym m.1) ∙ ap (λ (l : List Version). built w.groups (children_of id l)) (sym seen_is)

-- the root goes
pub hung_promoted : (root top : ℕ) (was now : List Branch) → Falls top (map seen was) → AreYounger (map seen was) → HasNone root (map seen was) → AreHung was
    → AreReshaped kept_shape was now → map seen now ≡ prune plain (promoted root) (map seen was) → AreHung now
hung_promoted root top was now f y none hung carried seen_is = λ id w at.
    let c = carried id w at in
    let there = subst (λ (l : List Version). entry_at plain l id ≡ Some (seen w)) seen_is (seen_entry now id w at) in
    let e = pruned_entry (promoted root) (promoted_keeps root) top (map seen was) f id (seen w) there in
    let g = promoted_groups root e.0 (seen w) e.2 in
    let s = seen_same was id c.0 e.0 c.1 e.1 in
    let away : id ≢ root = λ z. g.2 (entry_id (map seen was) id e.0 e.1 ∙ z) in
    c.2 ∙ hung id c.0 c.1
    ∙ ap (λ (l : List ℕ). built l (children_of id (map seen was))) (sym (g.0 ∙ ap (λ (z : Version). z.groups) s))
    ∙ ap (built w.groups) (sym (children_pruned (promoted root) id (promoted_keeps root) (promoted_parents root id away) top (map seen was) f y (ap is_some there) ∙ ruled_promoted root id (map seen was) away none))
    ∙ ap (λ (l : List Version). built w.groups (children_of id l)) (sym seen_is)

-- more groups open
grows_none : (all new : List ℕ) → ((r : ℕ) → is_among new r ≡ true → is_among all r ≡ false) → Grows all [] new
grows_none all [] h = tt
grows_none all (g ∷ gs) h =
    (h g (ap (λ (b : Bool). b || is_among gs g) (eq-eqb g g refl)), grows_none all gs (λ r m. h r (right (g == r) (is_among gs r) m)))
  where
    right : (a b : Bool) → b ≡ true → (a || b) ≡ true
    right true b h = refl
    right false b h = h

second : (a b : Bool) → a ≡ false → (a || b) ≡ true → b ≡ true
second true b n h = absurd (false≢true (sym n))
second false b n h = h

right_of : (a b : Bool) → b ≡ true → (a || b) ≡ true
right_of true b h = refl
right_of false b h = h

first_of_all : (g : ℕ) (gs : List ℕ) → is_among (g ∷ gs) g ≡ true
first_of_all g gs = ap (λ (b : Bool). b || is_among gs g) (eq-eqb g g refl)

not_above : (g h : ℕ) (hs : List ℕ) → IsRising (h ∷ hs) → g < h → is_among (h ∷ hs) g ≡ false
not_above g h hs up low = one (is_among (h ∷ hs) g) refl
  where
    two : (b : Bool) → (h == g) ≡ b → (b || is_among hs g) ≡ true → ⊥
    two true is m = let e = same h g is in absurd (omega arith)
    two false is m = let high : h < g = up.0 g m in absurd (omega arith)

    one : (b : Bool) → is_among (h ∷ hs) g ≡ b → b ≡ false
    one true m = absurd (two (h == g) refl m)
    one false m = refl

pub grows : (all old new : List ℕ) → IsRising old → IsRising new → ((r : ℕ) → is_among old r ≡ true → is_among new r ≡ true) → ((r : ℕ) → is_among new r ≡ true → is_among all r ≡ is_among old r) → Grows all old new
grows all [] new low up sub agree = grows_none all new agree
grows all (h ∷ hs) [] low up sub agree = absurd (false≢true (sub h (first_of_all h hs)))
grows all (h ∷ hs) (g ∷ gs) low up sub agree =
    one (h == g) refl
    (λ (e : h ≡ g). grows all hs gs low.1 up.1 (sub_same e) (agree_same e))
    (λ (n : g < h). grows all (h ∷ hs) gs low up.1 (sub_more n) (λ r m. agree r (right_of (g == r) (is_among gs r) m)))
  where
    sub_same : h ≡ g → (r : ℕ) → is_among hs r ≡ true → is_among gs r ≡ true
    sub_same e r m =
        let high : h < r = low.0 r m in
        second (g == r) (is_among gs r) (differs g r (λ z. omega arith)) (sub r (right_of (h == r) (is_among hs r) m))

    agree_same : h ≡ g → (r : ℕ) → is_among gs r ≡ true → is_among all r ≡ is_among hs r
    agree_same e r m =
        let high : g < r = up.0 r m in
        agree r (right_of (g == r) (is_among gs r) m) ∙ ap (λ (b : Bool). b || is_among hs r) (differs h r (λ z. omega arith))

    sub_more : g < h → (r : ℕ) → is_among (h ∷ hs) r ≡ true → is_among gs r ≡ true
    sub_more n r m = second (g == r) (is_among gs r) (differs g r (λ z. two (h == r) refl m z)) (sub r m)
      where
        two : (b : Bool) → (h == r) ≡ b → (b || is_among hs r) ≡ true → g ≡ r → ⊥
        two true is m z = let e = same h r is in absurd (omega arith)
        two false is m z = let high : h < r = low.0 r m in absurd (omega arith)

    below : (h == g) ≡ false → g < h
    below n = up.0 h (second (g == h) (is_among gs h) (differs g h (λ z. apart h g n (sym z))) (sub h (first_of_all h hs)))

    one : (b : Bool) → (h == g) ≡ b → (h ≡ g → Grows all hs gs) → (g < h → Grows all (h ∷ hs) gs) → ((h ≡ g) × Grows all hs gs) ⊎ ((h ≢ g) × (is_among all g ≡ false) × Grows all (h ∷ hs) gs)
    one true is here more = let e = same h g is in inl (e, here e)
    one false is here more =
        let n = below is in
        inr (apart h g is, agree g (first_of_all g gs) ∙ not_above g h hs low n, more n)

children_set : (p i : ℕ) (vs : List Branch) (v w : Branch) → i < length vs → v ≡ get_or vs i v → w.id ≡ v.id → w.parent ≡ v.parent → w.label ≡ v.label → children_of p (map seen (set vs i w)) ≡ children_of p (map seen vs)
children_set p i [] v w within read id up label = absurd (omega arith)
children_set p zero (x ∷ vs) v w within read id up label =
    ap (λ (o : Option ℕ). cond (is_parent p o) ((w.label, w.id) ∷ children_of p (map seen vs)) (children_of p (map seen vs))) (up ∙ ap (λ (z : Branch). z.parent) read)
    ∙ ap (λ (l : List ℕ). cond (is_parent p x.parent) ((l, w.id) ∷ children_of p (map seen vs)) (children_of p (map seen vs))) (label ∙ ap (λ (z : Branch). z.label) read)
    ∙ ap (λ (n : ℕ). cond (is_parent p x.parent) ((x.label, n) ∷ children_of p (map seen vs)) (children_of p (map seen vs))) (id ∙ ap (λ (z : Branch). z.id) read)
children_set p (suc i) (x ∷ vs) v w within read id up label =
    ap (λ (l : List (List ℕ × ℕ)). cond (is_parent p x.parent) ((x.label, x.id) ∷ l) l) (children_set p i vs v w (omega arith) read id up label)

-- the open groups of one version are others
module _ (vs : List Branch) (i : ℕ) (v w : Branch) (fall : AreFalling vs) (within : i < length vs) (read : v ≡ get_or vs i v) (id_is : w.id ≡ v.id) (up : w.parent ≡ v.parent) (label : w.label ≡ v.label) where
  ids : (d : Branch) → w.id ≡ (get_or vs i d).id
  ids d = id_is ∙ ap (λ (z : Branch). z.id) (read ∙ get_or_default vs i v d within)

  found : (id : ℕ) → ((d : Branch) → entry_at branches vs id ≡ Some (get_or vs i d)) → entry_at branches vs id ≡ Some v
  found id h = h v ∙ ap (λ (z : Branch). Some z) (sym read)

  pub hung_filled : AreHung vs → Grows v.groups v.groups w.groups → ((id : ℕ) → entry_at branches vs id ≡ Some v → AreHeld v.groups (children_of id (map seen vs))) → shape_of w.below ≡ filled w.groups (shape_of v.below) → AreHung (set vs i w)
  hung_filled hung more held shape = λ id x at. one id x (set_entry fall.top vs i w fall.falls within ids id x at)
    where
      one : (id : ℕ) (x : Branch) → ((id ≡ w.id) × (x ≡ w) × ((d : Branch) → entry_at branches vs id ≡ Some (get_or vs i d))) ⊎ ((id ≢ w.id) × (entry_at branches vs id ≡ Some x))
          → shape_of x.below ≡ built x.groups (children_of id (map seen (set vs i w)))
      one id x (inl r) =
          let at = found id r.2 in
          ap (λ (z : Branch). shape_of z.below) r.1 ∙ shape ∙ ap (filled w.groups) (hung id v at)
          ∙ filled_built v.groups w.groups v.groups (children_of id (map seen vs)) more (held id at).over
          ∙ ap (built w.groups) (sym (children_set id i vs v w within read id_is up label))
          ∙ ap (λ (z : Branch). built z.groups (children_of id (map seen (set vs i w)))) (sym r.1)
      one id x (inr r) = hung id x r.1 ∙ ap (built x.groups) (sym (children_set id i vs v w within read id_is up label))

  roots_set : (i : ℕ) (vs : List Branch) → i < length vs → v ≡ get_or vs i v → length (roots (map seen (set vs i w))) ≡ length (roots (map seen vs))
  roots_set i [] within read = absurd (omega arith)
  roots_set zero (x ∷ vs) within read =
      ap (λ (b : Bool). length (cond b (seen w ∷ roots (map seen vs)) (roots (map seen vs)))) (ap is_none (up ∙ ap (λ (z : Branch). z.parent) read))
      ∙ one (is_none x.parent)
    where
      one : (b : Bool) → length (cond b (seen w ∷ roots (map seen vs)) (roots (map seen vs))) ≡ length (cond b (seen x ∷ roots (map seen vs)) (roots (map seen vs)))
      one true = refl
      one false = refl
  roots_set (suc i) (x ∷ vs) within read = one (is_none x.parent) (roots_set i vs (omega arith) read)
    where
      one : (b : Bool) → length (roots (map seen (set vs i w))) ≡ length (roots (map seen vs))
          → length (cond b (seen x ∷ roots (map seen (set vs i w))) (roots (map seen (set vs i w)))) ≡ length (cond b (seen x ∷ roots (map seen vs)) (roots (map seen vs)))
      one true e = ap suc e
      one false e = e

  rising_set : (i : ℕ) (vs : List Branch) → i < length vs → v ≡ get_or vs i v → IsRising w.groups → AreRising (map seen vs) → AreRising (map seen (set vs i w))
  rising_set i [] within read groups h = absurd (omega arith)
  rising_set zero (x ∷ vs) within read groups h = (subst IsRising (sym (label ∙ ap (λ (z : Branch). z.label) read)) h.0, groups, h.2)
  rising_set (suc i) (x ∷ vs) within read groups h = (h.0, h.1, rising_set i vs (omega arith) read groups h.2)

  pub family_filled : AreFamily (map seen vs) → ((r : ℕ) → is_among v.groups r ≡ true → is_among w.groups r ≡ true) → IsRising w.groups → AreFamily (map seen (set vs i w))
  family_filled h more groups =
      let few = roots_set i vs within read in let most = h.one_root in
      record {
        one_root = omega arith;
        held = λ id x at. (let b = entry_seen (set vs i w) id x at in one id x b.0 b.2 (set_entry fall.top vs i w fall.falls within ids id b.0 b.1));
        rising = rising_set i vs within read groups h.rising;
      }
    where
      same_children : (id : ℕ) → children_of id (map seen (set vs i w)) ≡ children_of id (map seen vs)
      same_children id = children_set id i vs v w within read id_is up label

      one : (id : ℕ) (x : Version) (b : Branch) → x ≡ seen b → ((id ≡ w.id) × (b ≡ w) × ((d : Branch) → entry_at branches vs id ≡ Some (get_or vs i d))) ⊎ ((id ≢ w.id) × (entry_at branches vs id ≡ Some b))
          → AreHeld x.groups (children_of id (map seen (set vs i w)))
      one id x b e (inl r) =
          subst (λ (l : List ℕ). AreHeld l (children_of id (map seen (set vs i w)))) (sym (ap (λ (z : Version). z.groups) e ∙ ap (λ (z : Branch). z.groups) r.1))
          (subst (AreHeld w.groups) (sym (same_children id)) (held_more v.groups w.groups (children_of id (map seen vs)) more (h.held id (seen v) (seen_entry vs id v (found id r.2)))))
      one id x b e (inr r) =
          subst (λ (l : List ℕ). AreHeld l (children_of id (map seen (set vs i w)))) (sym (ap (λ (z : Version). z.groups) e))
          (subst (AreHeld b.groups) (sym (same_children id)) (h.held id (seen b) (seen_entry vs id b r.1)))

-- a version comes in under a new id
module _ (top : ℕ) (was : List Branch) (parent : Option ℕ) (label : List ℕ) (falls : Falls top (map seen was)) (y : AreYounger (map seen was))
    (older : (p : ℕ) → parent ≡ Some p → p < top) where
  abbrev fresh : Version
  fresh = record { id = top; parent = parent; label = label; groups = [] }

  not_mine : is_parent top parent ≡ false
  not_mine = not_parent top top parent older (omega arith)

  none_new : children_of top (fresh ∷ map seen was) ≡ []
  none_new =
      ap (λ (b : Bool). cond b ((label, top) ∷ children_of top (map seen was)) (children_of top (map seen was))) not_mine
      ∙ no_children top (map seen was) (none_above top top (map seen was) falls y (omega arith))

  pub hung_planted : (planted_ : List Branch) (new : Branch) → AreHung was → AreReshaped (at_one parent (λ groups. planted groups label top)) was planted_ → map seen planted_ ≡ map seen was
      → seen new ≡ fresh → shape_of new.below ≡ Nothing → AreHung (new ∷ planted_)
  hung_planted planted_ new hung change seen_is new_is bare = λ id x at. one id x (new.id == id) refl at
    where
      whole : map seen (new ∷ planted_) ≡ fresh ∷ map seen was
      whole = ap (λ (v : Version). v ∷ map seen planted_) new_is ∙ ap (λ (l : List Version). fresh ∷ l) seen_is

      two : (id : ℕ) (x v : Branch) → entry_at branches planted_ id ≡ Some x → entry_at branches was id ≡ Some v → shape_of x.below ≡ at_one parent (λ groups. planted groups label top) id v.groups (shape_of v.below)
          → (b : Bool) → is_parent id parent ≡ b → shape_of x.below ≡ built x.groups (children_of id (fresh ∷ map seen was))
      two id x v at before shape true is =
          let s = seen_same was id v (seen x) before (subst (λ (l : List Version). entry_at plain l id ≡ Some (seen x)) seen_is (seen_entry planted_ id x at)) in
          shape ∙ ap (λ (b : Bool). cond b (planted v.groups label top (shape_of v.below)) (shape_of v.below)) is
          ∙ ap (planted v.groups label top) (hung id v before) ∙ planted_built v.groups label top (children_of id (map seen was))
          ∙ ap (λ (z : Version). built z.groups ((label, top) ∷ children_of id (map seen was))) (sym s)
          ∙ ap (λ (b : Bool). built x.groups (cond b ((label, top) ∷ children_of id (map seen was)) (children_of id (map seen was)))) (sym is)
      two id x v at before shape false is =
          let s = seen_same was id v (seen x) before (subst (λ (l : List Version). entry_at plain l id ≡ Some (seen x)) seen_is (seen_entry planted_ id x at)) in
          shape ∙ ap (λ (b : Bool). cond b (planted v.groups label top (shape_of v.below)) (shape_of v.below)) is
          ∙ hung id v before
          ∙ ap (λ (z : Version). built z.groups (children_of id (map seen was))) (sym s)
          ∙ ap (λ (b : Bool). built x.groups (cond b ((label, top) ∷ children_of id (map seen was)) (children_of id (map seen was)))) (sym is)

      one : (id : ℕ) (x : Branch) (b : Bool) → (new.id == id) ≡ b → cond b (Some new) (entry_at branches planted_ id) ≡ Some x → shape_of x.below ≡ built x.groups (children_of id (map seen (new ∷ planted_)))
      one id x true is at =
          let e = same_Some new x at in
          let here : id ≡ top = sym (same new.id id is) ∙ ap (λ (z : Version). z.id) new_is in
          let groups : x.groups ≡ [] = ap (λ (z : Branch). z.groups) (sym e) ∙ ap (λ (z : Version). z.groups) new_is in
          ap (λ (z : Branch). shape_of z.below) (sym e) ∙ bare
          ∙ sym (ap (λ (l : List ℕ). built l (children_of id (map seen (new ∷ planted_)))) groups
          ∙ ap (λ (l : List Version). built [] (children_of id l)) whole ∙ ap (λ (n : ℕ). built [] (children_of n (fresh ∷ map seen was))) here ∙ ap (built []) none_new)
      one id x false is at =
          let c = change id x at in
          two id x c.0 at c.1 c.2 (is_parent id parent) refl ∙ ap (λ (l : List Version). built x.groups (children_of id l)) (sym whole)

  pub family_added : AreFamily (map seen was) → IsRising label → length (cond (is_none parent) (fresh ∷ roots (map seen was)) (roots (map seen was))) ≤ 1
      → ((p : ℕ) (v : Version) → parent ≡ Some p → entry_at plain (map seen was) p ≡ Some v → AreHeld v.groups ((label, top) ∷ children_of p (map seen was))) → AreFamily (fresh ∷ map seen was)
  family_added h rises few held = record {
    one_root = few;
    held = λ id x at. one id x (top == id) refl at (is_parent id parent) refl;
    rising = (rises, tt, h.rising);
  }
    where
      up : (id : ℕ) (o : Option ℕ) → is_parent id o ≡ true → o ≡ Some id
      up id None e = absurd (false≢true e)
      up id (Some p) e = ap (λ (n : ℕ). Some n) (same p id e)

      one : (id : ℕ) (x : Version) (a : Bool) → (top == id) ≡ a → cond a (Some fresh) (entry_at plain (map seen was) id) ≡ Some x → (b : Bool) → is_parent id parent ≡ b
          → AreHeld x.groups (cond b ((label, top) ∷ children_of id (map seen was)) (children_of id (map seen was)))
      one id x true is at true to = absurd (false≢true (sym not_mine ∙ ap (λ (n : ℕ). is_parent n parent) (same top id is) ∙ to))
      one id x true is at false to =
          let none = no_children id (map seen was) (none_above id top (map seen was) falls y (let e = same top id is in omega arith)) in
          subst (AreHeld x.groups) (sym none) (record { over = tt; apart = tt })
      one id x false is at true to = held id x (up id parent to) at
      one id x false is at false to = h.held id x at

entry_id_of : (vs : List Version) (id : ℕ) (v : Version) → entry_at plain vs id ≡ Some v → v.id ≡ id
entry_id_of = entry_id

-- no child but those of another parent has this id
but_none : (vs : List Version) (top id p : ℕ) (v : Version) → Falls top vs → entry_at plain vs id ≡ Some v → is_parent p v.parent ≡ false → children_but id (children_of p vs) ≡ children_of p vs
but_none [] top id p v f at aside = refl
but_none (x ∷ vs) top id p v f at aside = one (x.id == id) refl at (is_parent p x.parent) refl (but_none vs x.id id p v f.1)
  where
    below : (top : ℕ) (vs : List Version) → Falls top vs → top ≤ id → children_but id (children_of p vs) ≡ children_of p vs
    below top [] f le = refl
    below top (z ∷ vs) f le = let low = f.0 in go (is_parent p z.parent) (below z.id vs f.1 (omega arith))
      where
        go : (b : Bool) → children_but id (children_of p vs) ≡ children_of p vs → children_but id (cond b ((z.label, z.id) ∷ children_of p vs) (children_of p vs)) ≡ cond b ((z.label, z.id) ∷ children_of p vs) (children_of p vs)
        go true rest =
            let low = f.0 in
            ap (λ (b : Bool). cond (not b) ((z.label, z.id) ∷ children_but id (children_of p vs)) (children_but id (children_of p vs))) (differs z.id id (λ e. omega arith))
            ∙ ap (λ (l : List (List ℕ × ℕ)). (z.label, z.id) ∷ l) rest
        go false rest = rest

    one : (a : Bool) → (x.id == id) ≡ a → cond a (Some x) (entry_at plain vs id) ≡ Some v → (b : Bool) → is_parent p x.parent ≡ b
        → (entry_at plain vs id ≡ Some v → is_parent p v.parent ≡ false → children_but id (children_of p vs) ≡ children_of p vs)
        → children_but id (cond b ((x.label, x.id) ∷ children_of p vs) (children_of p vs)) ≡ cond b ((x.label, x.id) ∷ children_of p vs) (children_of p vs)
    one true is h true to rest = absurd (false≢true (sym aside ∙ ap (λ (z : Version). is_parent p z.parent) (sym (same_Some x v h)) ∙ to))
    one true is h false to rest = let e = same x.id id is in below x.id vs f.1 (omega arith)
    one false is h true to rest =
        ap (λ (b : Bool). cond (not b) ((x.label, x.id) ∷ children_but id (children_of p vs)) (children_but id (children_of p vs))) is
        ∙ ap (λ (l : List (List ℕ × ℕ)). (x.label, x.id) ∷ l) (rest h aside)
    one false is h false to rest = rest h aside

-- a version begins anew
module _ (top : ℕ) (was : List Branch) (id : ℕ) (v : Branch) (falls : Falls top (map seen was)) (y : AreYounger (map seen was)) (here : entry_at branches was id ≡ Some v) where
  abbrev begun : Version
  begun = record { id = top; parent = v.parent; label = v.label; groups = [] }

  abbrev left : List Version
  left = prune plain (but id) (map seen was)

  old : entry_at plain (map seen was) id ≡ Some (seen v)
  old = seen_entry was id v here

  -- a version that is there after the prune
  stays : (n : ℕ) (x : Version) → entry_at plain left n ≡ Some x → (entry_at plain (map seen was) n ≡ Some x) × (children_of n left ≡ children_but id (children_of n (map seen was)))
  stays n x at =
      let e = pruned_entry (but id) (but_keeps id) top (map seen was) falls n x at in (
        e.1 ∙ ap (λ (z : Version). Some z) (sym (but_same id e.0 x e.2)),
        children_pruned (but id) n (but_keeps id) (but_parents id n) top (map seen was) falls y (ap is_some at) ∙ ruled_but id n (map seen was),
      )

  mine : (n : ℕ) (o : Option ℕ) → is_parent n o ≡ true → o ≡ Some n
  mine n None e = absurd (false≢true e)
  mine n (Some p) e = ap (λ (k : ℕ). Some k) (same p n e)

  pub hung_renewed : (removed changed now : List Branch) (new : Branch) → AreHung was
      → ((n : ℕ) (x : Branch) → entry_at branches removed n ≡ Some x → entry_at branches was n ≡ Some x)
      → AreReshaped (at_one v.parent (λ groups. renumbered v.label top)) removed changed → AreReshaped kept_shape (new ∷ changed) now
      → map seen now ≡ begun ∷ left → seen new ≡ begun → shape_of new.below ≡ Nothing
      → children_of top (begun ∷ left) ≡ [] → ((n : ℕ) (x : Version) → entry_at plain left n ≡ Some x → n ≢ top) → AreHung now
  hung_renewed removed changed now new hung before change carried seen_is new_is bare none low = λ n x at.
      let c = carried n x at in
      one n x c.0 c.1 c.2 (subst (λ (l : List Version). entry_at plain l n ≡ Some (seen x)) seen_is (seen_entry now n x at)) (new.id == n) refl (top == n) (ap (λ (z : Version). z.id == n) (sym new_is)) c.1
    where
      two : (n : ℕ) (x t : Branch) → entry_at branches was n ≡ Some t → shape_of x.below ≡ at_one v.parent (λ groups. renumbered v.label top) n t.groups (shape_of t.below) → entry_at plain left n ≡ Some (seen x)
          → (b : Bool) → is_parent n v.parent ≡ b → shape_of x.below ≡ built x.groups (cond b ((v.label, top) ∷ children_of n left) (children_of n left))
      two n x t at shape there true is =
          let s = stays n (seen x) there in
          let e = seen_same was n t (seen x) at s.0 in
          let held = child_held (map seen was) id n (seen v) old (mine n v.parent is) in
          let only = child_only top (map seen was) id n (seen v) falls old in
          shape ∙ ap (λ (b : Bool). cond b (renumbered v.label top (shape_of t.below)) (shape_of t.below)) is
          ∙ ap (renumbered v.label top) (hung n t at) ∙ renumbered_built v.label id top t.groups (children_of n (map seen was)) held only
          ∙ ap (λ (z : Version). built z.groups ((v.label, top) ∷ children_but id (children_of n (map seen was)))) (sym e)
          ∙ ap (λ (l : List (List ℕ × ℕ)). built x.groups ((v.label, top) ∷ l)) (sym s.1)
      two n x t at shape there false is =
          let s = stays n (seen x) there in
          let e = seen_same was n t (seen x) at s.0 in
          shape ∙ ap (λ (b : Bool). cond b (renumbered v.label top (shape_of t.below)) (shape_of t.below)) is
          ∙ hung n t at
          ∙ ap (λ (z : Version). built z.groups (children_of n (map seen was))) (sym e)
          ∙ ap (built x.groups) (sym (s.1 ∙ but_none (map seen was) top id n (seen v) falls old is))

      one : (n : ℕ) (x u : Branch) → entry_at branches (new ∷ changed) n ≡ Some u → shape_of x.below ≡ shape_of u.below → cond (top == n) (Some begun) (entry_at plain left n) ≡ Some (seen x)
          → (a : Bool) → (new.id == n) ≡ a → (b : Bool) → b ≡ (new.id == n) → cond (new.id == n) (Some new) (entry_at branches changed n) ≡ Some u
          → shape_of x.below ≡ built x.groups (children_of n (map seen now))
      one n x u found shape there true is b bs at =
          let e = same_Some new u (ap (λ (z : Bool). cond z (Some new) (entry_at branches changed n)) (sym is) ∙ at) in
          let mine : (top == n) ≡ true = ap (λ (z : Version). z.id == n) (sym new_is) ∙ is in
          let x_is : begun ≡ seen x = same_Some begun (seen x) (ap (λ (z : Bool). cond z (Some begun) (entry_at plain left n)) (sym mine) ∙ there) in
          shape ∙ ap (λ (z : Branch). shape_of z.below) (sym e) ∙ bare
          ∙ sym (ap (λ (l : List ℕ). built l (children_of n (map seen now))) (sym (ap (λ (z : Version). z.groups) x_is))
          ∙ ap (λ (l : List Version). built [] (children_of n l)) seen_is ∙ ap (λ (k : ℕ). built [] (children_of k (begun ∷ left))) (sym (same top n mine)) ∙ ap (built []) none)
      one n x u found shape there false is b bs at =
          let behind = ap (λ (z : Bool). cond z (Some new) (entry_at branches changed n)) (sym is) ∙ at in
          let c = change n u behind in
          let other : (top == n) ≡ false = ap (λ (z : Version). z.id == n) (sym new_is) ∙ is in
          let there_ : entry_at plain left n ≡ Some (seen x) = ap (λ (z : Bool). cond z (Some begun) (entry_at plain left n)) (sym other) ∙ there in
          two n x c.0 (before n c.0 c.1) (shape ∙ c.2) there_ (is_parent n v.parent) refl
          ∙ ap (λ (l : List Version). built x.groups (children_of n l)) (sym seen_is)

  roots_left : (vs : List Version) → length (roots (prune plain (but id) vs)) ≤ length (roots vs)
  roots_left vs = roots_pruned (but id) (λ x w e. ap (λ (z : Version). is_none z.parent) (but_same id x w e)) vs

  roots_but : (vs : List Version) (x : Version) → entry_at plain vs id ≡ Some x → is_none x.parent ≡ true → suc (length (roots (prune plain (but id) vs))) ≤ length (roots vs)
  roots_but [] x at none = absurd (cc)
  roots_but (z ∷ vs) x at none = one (z.id == id) at (is_none z.parent) refl (roots_but vs x) (roots_left vs)
    where
      rest : List Version
      rest = prune plain (but id) vs

      two : (b c : Bool) → is_none z.parent ≡ b → suc (length (roots rest)) ≤ length (roots vs) → suc (length (roots (cond c (z ∷ rest) rest))) ≤ length (cond b (z ∷ roots vs) (roots vs))
      two true true is le = subst (λ (b : Bool). suc (length (cond b (z ∷ roots rest) (roots rest))) ≤ suc (length (roots vs))) (sym is) (omega arith)
      two true false is le = omega arith
      two false true is le = subst (λ (b : Bool). suc (length (cond b (z ∷ roots rest) (roots rest))) ≤ length (roots vs)) (sym is) le
      two false false is le = le

      one : (a : Bool) → cond a (Some z) (entry_at plain vs id) ≡ Some x → (b : Bool) → is_none z.parent ≡ b
          → (entry_at plain vs id ≡ Some x → is_none x.parent ≡ true → suc (length (roots rest)) ≤ length (roots vs)) → length (roots rest) ≤ length (roots vs)
          → suc (length (roots (kept plain (cond a None (Some z)) rest))) ≤ length (cond b (z ∷ roots vs) (roots vs))
      one true h true is ih le = omega arith
      one true h false is ih le = absurd (false≢true (sym is ∙ ap (λ (y : Version). is_none y.parent) (same_Some z x h) ∙ none))
      one false h b is ih le = two b (parent_there plain rest z.parent) is (ih h none)

  family_few : AreFamily (map seen was) → (b : Bool) → is_none v.parent ≡ b → length (cond b (begun ∷ roots left) (roots left)) ≤ 1
  family_few h true is = let few = h.one_root in let less = roots_but (map seen was) (seen v) old is in omega arith
  family_few h false is = let few = h.one_root in let less = roots_left (map seen was) in omega arith

  left_none : (n : ℕ) → top ≤ n → (vs : List Version) → Falls top vs → AreYounger vs → children_of n (prune plain (but id) vs) ≡ []
  left_none n le vs f g = no_children n (prune plain (but id) vs) (none_pruned (but id) n (but_parents id n) vs (none_above n top vs f g le))

  begun_rises : (vs : List Version) → AreRising vs → entry_at plain vs id ≡ Some (seen v) → IsRising v.label
  begun_rises [] r at = absurd (cc)
  begun_rises (z ∷ vs) r at = go (z.id == id) at (begun_rises vs r.2)
    where
      go : (b : Bool) → cond b (Some z) (entry_at plain vs id) ≡ Some (seen v) → (entry_at plain vs id ≡ Some (seen v) → IsRising v.label) → IsRising v.label
      go true e rest = subst (λ (y : Version). IsRising y.label) (same_Some z (seen v) e) r.0
      go false e rest = rest e

  -- the new id has no child, and nobody else has it
  pub none_begun : ((p : ℕ) → v.parent ≡ Some p → p < top) → children_of top (begun ∷ left) ≡ []
  none_begun less =
      ap (λ (b : Bool). cond b ((v.label, top) ∷ children_of top left) (children_of top left)) (not_parent top top v.parent less (omega arith))
      ∙ left_none top (omega arith) (map seen was) falls y

  pub left_below : (n : ℕ) (x : Version) → entry_at plain left n ≡ Some x → n ≢ top
  left_below n x at = let low = there_below top (map seen was) n falls (ap is_some (stays n x at).0) in λ e. omega arith

  pub family_renewed : AreFamily (map seen was) → ((p : ℕ) → v.parent ≡ Some p → p < top) → AreFamily (begun ∷ left)
  family_renewed h less = record {
    one_root = family_few h (is_none v.parent) refl;
    held = λ n x at. one n x (top == n) refl at (is_parent n v.parent) refl;
    rising = (begun_rises (map seen was) h.rising old, tt, rising_pruned (but id) (λ x w e l g. (subst (λ (z : Version). IsRising z.label × IsRising z.groups) (sym (but_same id x w e)) (l, g))) (map seen was) h.rising);
  }
    where
      one : (n : ℕ) (x : Version) (a : Bool) → (top == n) ≡ a → cond a (Some begun) (entry_at plain left n) ≡ Some x → (b : Bool) → is_parent n v.parent ≡ b
          → AreHeld x.groups (cond b ((v.label, top) ∷ children_of n left) (children_of n left))
      one n x true is at true to =
          let e = mine n v.parent to in let low = less n e in let here = same top n is in absurd (omega arith)
      one n x true is at false to =
          let here = same top n is in
          subst (AreHeld x.groups) (sym (left_none n (omega arith) (map seen was) falls y)) (record { over = tt; apart = tt })
      one n x false is at true to =
          let s = stays n x at in
          subst (λ (l : List (List ℕ × ℕ)). AreHeld x.groups ((v.label, top) ∷ l)) (sym s.1)
          (held_renumbered x.groups v.label id top (children_of n (map seen was)) (child_held (map seen was) id n (seen v) old (mine n v.parent to)) (h.held n x s.0))
      one n x false is at false to =
          let s = stays n x at in
          subst (AreHeld x.groups) (sym (s.1 ∙ but_none (map seen was) top id n (seen v) falls old to)) (h.held n x s.0)

-- the root goes
over_none : (label : List ℕ) → ((r : ℕ) → is_among label r ≡ true → is_among [] r ≡ true) → label ≡ []
over_none [] h = refl
over_none (r ∷ rs) h = absurd (false≢true (h r (first_of_all r rs)))

few_children : (cs : List (List ℕ × ℕ)) → AreHeld [] cs → length cs ≤ 1
few_children [] h = omega arith
few_children (c ∷ []) h = omega arith
few_children (c ∷ d ∷ cs) h = absurd (h.apart.0.0 (over_none d.0 h.over.1.0 ∙ sym (over_none c.0 h.over.0)))

module _ (root : ℕ) where
  abbrev gone : List Version → List Version
  gone vs = prune plain (promoted root) vs

  -- who has no parent then had none or was a child of the root
  roots_gone : (vs : List Version) → length (roots (gone vs)) ≤ length (children_of root vs) + length (roots vs)
  roots_gone [] = omega arith
  roots_gone (x ∷ vs) = one (x.id == root) x.parent refl (roots_gone vs)
    where
      two : (w : Version) (c : Bool) (k : ℕ) → length (roots (gone vs)) ≤ k → length (roots (cond c (w ∷ gone vs) (gone vs))) ≤ suc k
      two w true k le = three (is_none w.parent)
        where
          three : (b : Bool) → length (cond b (w ∷ roots (gone vs)) (roots (gone vs))) ≤ suc k
          three true = omega arith
          three false = omega arith
      two w false k le = omega arith

      one : (a : Bool) (o : Option ℕ) → x.parent ≡ o → length (roots (gone vs)) ≤ length (children_of root vs) + length (roots vs)
          → length (roots (kept plain (cond a None (cond (is_parent root o) (Some (record x { parent = None })) (Some x))) (gone vs)))
          ≤ length (cond (is_parent root o) ((x.label, x.id) ∷ children_of root vs) (children_of root vs)) + length (cond (is_none o) (x ∷ roots vs) (roots vs))
      one true o e le = four (is_parent root o) (is_none o)
        where
          four : (b c : Bool) → length (roots (gone vs)) ≤ length (cond b ((x.label, x.id) ∷ children_of root vs) (children_of root vs)) + length (cond c (x ∷ roots vs) (roots vs))
          four true true = omega arith
          four true false = omega arith
          four false true = omega arith
          four false false = omega arith
      one false None e le = let most = two x (parent_there plain (gone vs) x.parent) (length (children_of root vs) + length (roots vs)) le in omega arith
      one false (Some p) e le = five (p == root)
        where
          six : (c : Bool) → length (roots (cond c (x ∷ gone vs) (gone vs))) ≤ length (children_of root vs) + length (roots vs)
          six true = subst (λ (o : Option ℕ). length (cond (is_none o) (x ∷ roots (gone vs)) (roots (gone vs))) ≤ length (children_of root vs) + length (roots vs)) (sym e) le
          six false = le

          five : (b : Bool) → length (roots (kept plain (cond b (Some (record x { parent = None })) (Some x)) (gone vs))) ≤ length (cond b ((x.label, x.id) ∷ children_of root vs) (children_of root vs)) + length (roots vs)
          five true = let most = two (record x { parent = None }) true (length (children_of root vs) + length (roots vs)) le in omega arith
          five false = six (parent_there plain (gone vs) x.parent)

  -- and the root itself is gone
  roots_but_one : (vs : List Version) (v : Version) → entry_at plain vs root ≡ Some v → v.parent ≡ None → suc (length (roots (gone vs))) ≤ length (children_of root vs) + length (roots vs)
  roots_but_one [] v at none = absurd (cc)
  roots_but_one (x ∷ vs) v at none = one (x.id == root) at x.parent refl (roots_but_one vs v) (roots_gone vs)
    where
      two : (w : Version) (c : Bool) (k : ℕ) → suc (length (roots (gone vs))) ≤ k → suc (length (roots (cond c (w ∷ gone vs) (gone vs)))) ≤ suc k
      two w true k le = three (is_none w.parent)
        where
          three : (b : Bool) → suc (length (cond b (w ∷ roots (gone vs)) (roots (gone vs)))) ≤ suc k
          three true = omega arith
          three false = omega arith
      two w false k le = omega arith

      one : (a : Bool) → cond a (Some x) (entry_at plain vs root) ≡ Some v → (o : Option ℕ) → x.parent ≡ o
          → (entry_at plain vs root ≡ Some v → v.parent ≡ None → suc (length (roots (gone vs))) ≤ length (children_of root vs) + length (roots vs))
          → length (roots (gone vs)) ≤ length (children_of root vs) + length (roots vs)
          → suc (length (roots (kept plain (cond a None (cond (is_parent root o) (Some (record x { parent = None })) (Some x))) (gone vs))))
          ≤ length (cond (is_parent root o) ((x.label, x.id) ∷ children_of root vs) (children_of root vs)) + length (cond (is_none o) (x ∷ roots vs) (roots vs))
      one true h None e ih le = omega arith
      one true h (Some p) e ih le =
          let z : None ≡ Some p = sym none ∙ ap (λ (y : Version). y.parent) (sym (same_Some x v h)) ∙ e in absurd (cc)
      one false h None e ih le =
          let most = two x (parent_there plain (gone vs) x.parent) (length (children_of root vs) + length (roots vs)) (ih h none) in omega arith
      one false h (Some p) e ih le = five (p == root)
        where
          six : (c : Bool) → suc (length (roots (cond c (x ∷ gone vs) (gone vs)))) ≤ length (children_of root vs) + length (roots vs)
          six true = subst (λ (o : Option ℕ). suc (length (cond (is_none o) (x ∷ roots (gone vs)) (roots (gone vs)))) ≤ length (children_of root vs) + length (roots vs)) (sym e) (ih h none)
          six false = ih h none

          five : (b : Bool) → suc (length (roots (kept plain (cond b (Some (record x { parent = None })) (Some x)) (gone vs)))) ≤ length (cond b ((x.label, x.id) ∷ children_of root vs) (children_of root vs)) + length (roots vs)
          five true = let most = two (record x { parent = None }) true (length (children_of root vs) + length (roots vs)) (ih h none) in omega arith
          five false = six (parent_there plain (gone vs) x.parent)

  pub family_promoted : (top : ℕ) (vs : List Version) (v : Version) → Falls top vs → AreYounger vs → HasNone root vs → entry_at plain vs root ≡ Some v → v.parent ≡ None → v.groups ≡ [] → AreFamily vs → AreFamily (prune plain (promoted root) vs)
  family_promoted top vs v f y none at up groups h =
      let most = roots_but_one vs v at up in
      let few = h.one_root in
      let single = few_children (children_of root vs) (subst (λ (l : List ℕ). AreHeld l (children_of root vs)) groups (h.held root v at)) in
      record {
        one_root = omega arith;
        held = λ id x there. (
            let e = pruned_entry (promoted root) (promoted_keeps root) top vs f id x there in
            let g = promoted_groups root e.0 x e.2 in
            let away : id ≢ root = λ z. g.2 (entry_id vs id e.0 e.1 ∙ z) in
            subst (λ (l : List ℕ). AreHeld l (children_of id (prune plain (promoted root) vs))) (sym g.0)
            (subst (AreHeld e.0.groups) (sym (children_pruned (promoted root) id (promoted_keeps root) (promoted_parents root id away) top vs f y (ap is_some there) ∙ ruled_promoted root id vs away none))
            (h.held id e.0 e.1)));
        rising = rising_pruned (promoted root) (λ x w e l g. (let s = promoted_groups root x w e in (subst IsRising (sym s.1) l, subst IsRising (sym s.0) g))) vs h.rising;
      }

-- a run that is among rising groups is there once
pub once : (run : ℕ) (gs : List ℕ) → IsRising gs → is_among gs run ≡ true → IsOnce run gs
once run [] up m = absurd (false≢true m)
once run (g ∷ gs) up m = one (g == run) refl m (once run gs up.1)
  where
    two : (b : Bool) → is_among gs run ≡ b → g ≡ run → b ≡ false
    two true there e = let high : g < run = up.0 run there in absurd (omega arith)
    two false there e = refl

    one : (b : Bool) → (g == run) ≡ b → (b || is_among gs run) ≡ true → (is_among gs run ≡ true → IsOnce run gs) → ((g ≡ run) × (is_among gs run ≡ false)) ⊎ ((g ≢ run) × IsOnce run gs)
    one true is m rest = let e = same g run is in inl (e, two (is_among gs run) refl e)
    one false is m rest = inr (apart g run is, rest m)
