-- A roll keeps what every state keeps.
use Rattle.std.proofs.Common.{◌≡◌, ◌≢◌, ℕ, ◌<◌, Bool, true, false, cond, ◌==◌, List, [], ◌∷◌, Option, Some, None, is_some, ⊎_elim, refl, sym, ap, ◌∙◌, subst, arith}
use Rattle.std.specs.Prelude.{⊤}
use Rattle.std.proofs.lemmas.Bool.Decides.{nat_tests}
use Rattle.sp_plan.specs.declared.plan.Plan.{Plan}
use Rattle.sp_plan.specs.Runs.{State}
use Rattle.sp_plan.specs.WindowNumbers.{first, size}
use Rattle.sp_group.specs.Family.{parent_there, kept, prune}
use Rattle.sp_group.specs.Machine.{Version, Machine, kin, version_at, root_in, is_bare, is_hit, conflict, inner, suppressed_by, is_suppressed}
use Rattle.sp_group.specs.Effects.{fresh, but, rolled}
use Rattle.sp_rules.specs.Kept.{Child, Stands, Shape, Sane, Kept}
use Rattle.sp_rules.proofs.Lists.{least_some}
use Rattle.sp_rules.proofs.Labels.{but_prunes}
use Rattle.sp_rules.proofs.Tree.{at_head, at_cases, at_id, prune_is, from, parent_is, parent_older, label_at, prune_shape, prune_grows}
use Rattle.sp_rules.proofs.Locals.{local_grows, root_last, root_is, rootless, root_supp}
use Rattle.sp_rules.proofs.Spawning.{fresh_sane, older_hit}
use Rattle.sp_rules.proofs.Home.{HasRead, hit_cases, hit_read, hit_bare}

pub but_same : (id : ℕ) (v v' : Version) → but id v ≡ Some v' → (v' ≡ v) × (v.id ≢ id)
but_same id v v' e = one (v.id == id) refl e
  where
    one : (b : Bool) → (v.id == id) ≡ b → cond b None (Some v) ≡ Some v' → (v' ≡ v) × (v.id ≢ id)
    one true is e = absurd (cc)
    one false is e = (cc, grind (arith, nat_tests))

pub but_stays : (id : ℕ) (v : Version) → v.id ≢ id → but id v ≡ Some v
but_stays id v n = grind (arith, nat_tests)

still_there : (x : Version) (o : Option Version) (rest : List Version) (id : ℕ) (u : Version) → ((y : Version) → o ≡ Some y → y ≡ x) → x.id ≢ id → version_at rest id ≡ Some u → version_at (kept kin o rest) id ≡ Some u
still_there x None rest id u h n e = e
still_there x (Some y) rest id u h n e = one (parent_there kin rest y.parent)
  where
    one : (b : Bool) → version_at (cond b (y ∷ rest) rest) id ≡ Some u
    one true = let same = h y refl in let i : y.id ≡ x.id = ap (λ (z : Version). z.id) same in grind (arith, nat_tests)
    one false = e

-- what is older than the version that goes stays
pub older_stays : (q : Plan) (f : Version → State) (fin a : ℕ) (vs : List Version) → Shape q f fin vs → (id : ℕ) (u : Version) → version_at vs id ≡ Some u → id < a → version_at (prune kin (but a) vs) id ≡ Some u
older_stays q f fin a [] s id u e l = absurd (cc)
older_stays q f fin a (x ∷ vs) s id u e l = ⊎_elim
    (λ (y : (x.id ≡ id) × (x ≡ u)).
    let b : but a x ≡ Some x = but_stays a x (let i = y.0 in omega arith) in
    let th = there x.parent (λ p w h m. older_stays q f fin a vs s.1 p w h m) s.0.stands (let i = y.0 in omega arith) in
    subst (λ (o : Option Version). version_at (kept kin o (prune kin (but a) vs)) id ≡ Some u) (sym b)
    (subst (λ (c : Bool). version_at (cond c (x ∷ prune kin (but a) vs) (prune kin (but a) vs)) id ≡ Some u) (sym th)
    (subst (λ (n : ℕ). version_at (x ∷ prune kin (but a) vs) n ≡ Some u) y.0 (at_head x (prune kin (but a) vs) ∙ ap Some y.1))))
    (λ (y : (x.id ≢ id) × (version_at vs id ≡ Some u)).
    still_there x (but a x) (prune kin (but a) vs) id u (λ w h. (but_same a x w h).0) y.0 (older_stays q f fin a vs s.1 id u y.1 l))
    (at_cases x vs id u e)
  where
    there : (o : Option ℕ) → ((p : ℕ) (w : Version) → version_at vs p ≡ Some w → p < a → version_at (prune kin (but a) vs) p ≡ Some w) → Stands q f fin vs x o → x.id < a → parent_there kin (prune kin (but a) vs) o ≡ true
    there None ih st m = refl
    there (Some p) ih st m = let n = s.0.newest p st.parent st.is in ap is_some (ih p st.parent st.is (omega arith))

pub siblings : (q : Plan) (f : Version → State) (fin : ℕ) (vs : List Version) → Shape q f fin vs → (a b p : ℕ) (v w : Version) → version_at vs a ≡ Some v → version_at vs b ≡ Some w → v.parent ≡ Some p → w.parent ≡ Some p → v.label ≡ w.label → a ≡ b
siblings q f fin [] s a b p v w e e' o o' l = absurd (cc)
siblings q f fin (x ∷ vs) s a b p v w e e' o o' l = ⊎_elim
    (λ (y : (x.id ≡ a) × (x ≡ v)). ⊎_elim
    (λ (z : (x.id ≡ b) × (x ≡ w)). sym y.0 ∙ z.0)
    (λ (z : (x.id ≢ b) × (version_at vs b ≡ Some w)). absurd ((stands v y.1 o).apart b w z.1 o' (sym l)))
    (at_cases x vs b w e'))
    (λ (y : (x.id ≢ a) × (version_at vs a ≡ Some v)). ⊎_elim
    (λ (z : (x.id ≡ b) × (x ≡ w)). absurd ((stands w z.1 o').apart a v y.1 o l))
    (λ (z : (x.id ≢ b) × (version_at vs b ≡ Some w)). siblings q f fin vs s.1 a b p v w y.1 z.1 o o' l)
    (at_cases x vs b w e'))
    (at_cases x vs a v e)
  where
    stands : (v : Version) → x ≡ v → v.parent ≡ Some p → Child q f vs v p
    stands v e o = subst (λ (z : Option ℕ). Stands q f fin vs v z) o (subst (λ (z : Version). Stands q f fin vs z z.parent) e s.0.stands)

-- taking a version away, with all below it
abbrev cut : Machine → ℕ → Machine
cut s id = record s { versions = prune kin (but id) s.versions }

any : Version → Type 0
any v = ⊤

module _ (q : Plan) (s : Machine) (a : ℕ) (h : Sane q s) where
  pub cut_back : (id : ℕ) (w : Version) → version_at (prune kin (but a) s.versions) id ≡ Some w → (version_at s.versions id ≡ Some w) × (w.id ≢ a)
  unfolding any
  cut_back id w e =
      let x = from q (inner q s.events) (but a) any s.finished (but_prunes q (inner q s.events) a any) s.versions (prune kin (but a) s.versions) (prune_is (but a) s.versions) h.shape (λ i v e. tt) id w e in
      let y = but_same a x.0 w x.2 in
      (x.1 ∙ ap Some (sym y.0), λ z. y.1 (ap (λ (u : Version). u.id) (sym y.0) ∙ z))

  pub cut_shape : Shape q (inner q s.events) s.finished (prune kin (but a) s.versions)
  unfolding any
  cut_shape = prune_shape q (inner q s.events) (but a) any s.finished (but_prunes q (inner q s.events) a any) s.versions (prune kin (but a) s.versions) (prune_is (but a) s.versions) h.shape (λ i v e. tt)

  pub cut_grows : (id : ℕ) (w : Version) → version_at (prune kin (but a) s.versions) id ≡ Some w → (i : ℕ) → is_suppressed q s id i ≡ true → suppressed_by q (inner q s.events) s.consumed (prune kin (but a) s.versions) id i ≡ true
  unfolding any
  cut_grows id w e i x = prune_grows q (inner q s.events) s.consumed (but a) any s.finished (but_prunes q (inner q s.events) a any) s.versions (prune kin (but a) s.versions) (prune_is (but a) s.versions) h.shape (λ i v e. tt) id w e i x

  pub cut_sane : Sane q (cut s a)
  unfolding any
  cut_sane = record {
    shape = cut_shape;
    each = λ id w e. local_grows q s.events s.ended s.tickets s.tickets (is_suppressed q s id) (suppressed_by q (inner q s.events) s.consumed (prune kin (but a) s.versions) id) w
        (λ i x. prune_grows q (inner q s.events) s.consumed (but a) any s.finished (but_prunes q (inner q s.events) a any) s.versions (prune kin (but a) s.versions) (prune_is (but a) s.versions) h.shape (λ i v e. tt) id w e i x)
        (λ n t e. e) (h.each id w (cut_back id w e).0);
    ids = λ id w e. h.ids id w (cut_back id w e).0;
    newest_first = h.newest_first;
    numbers = h.numbers;
    unborn = h.unborn;
    emitted = h.emitted;
    consumed = h.consumed;
    good = h.good;
    closed = h.closed;
  }

  pub cut_hit : (id : ℕ) (w : Version) → version_at (prune kin (but a) s.versions) id ≡ Some w → w.parent ≡ None → (i : ℕ) → is_hit q (cut s a) w i ≡ true → is_hit q s w i ≡ true
  cut_hit id w e root i x =
      let o = hit_cases q (cut s a) w i x in
      let u = (cut_back id w e).0 in
      let wid = at_id s.versions id w u in
      let sup : is_suppressed q s w.id i ≡ true =
      ap (λ (z : ℕ). is_suppressed q s z i) wid ∙ root_supp q (inner q s.events) s.consumed s.versions id w u root i ∙ sym (root_supp q (inner q s.events) s.consumed (prune kin (but a) s.versions) id w e root i) ∙ ap (λ (z : ℕ). suppressed_by q (inner q s.events) s.consumed (prune kin (but a) s.versions) z i) (sym wid) ∙ o.0 in
      ⊎_elim (λ (y : HasRead q s.events w i). hit_read q s w i sup y)
      (λ (y : is_bare s.tickets w.id i ≡ true). hit_bare q s w i sup y) o.1

-- with the root all goes
pub cut_root : (q : Plan) (s : Machine) → Sane q s → (id : ℕ) (r : Version) → version_at s.versions id ≡ Some r → r.parent ≡ None → prune kin (but r.id) s.versions ≡ []
cut_root q s h id r e root = rootless q (inner q s.events) s.finished (prune kin (but r.id) s.versions) (cut_shape q s r.id h) (one (root_in (prune kin (but r.id) s.versions)) refl)
  where
    one : (o : Option Version) → root_in (prune kin (but r.id) s.versions) ≡ o → o ≡ None
    one None is = refl
    one (Some x) is =
        let y = root_is q (inner q s.events) s.finished (prune kin (but r.id) s.versions) (cut_shape q s r.id h) x is in
        let z = cut_back q s r.id h x.id x y.0 in
        let a = (root_last q (inner q s.events) s.finished s.versions h.shape x.id x z.0 y.1).0 in
        let b = (root_last q (inner q s.events) s.finished s.versions h.shape id r e root).0 in
        let same : x ≡ r = cc in
        absurd (z.1 (ap (λ (u : Version). u.id) same))

pub roll_sane : (q : Plan) (s : Machine) (id : ℕ) (v : Version) → version_at s.versions id ≡ Some v → Sane q s → Sane q (rolled s (Some v))
roll_sane q s id v e h =
    let l = h.each id v e in
    fresh_sane q (cut s v.id) v.parent v.window v.label (cut_sane q s v.id h) l.there.0 l.there.1 (label_at q (inner q s.events) s.finished s.versions h.shape id v e) (stand v.parent refl)
  where
    stand : (o : Option ℕ) → v.parent ≡ o → Stands q (inner q s.events) s.finished (prune kin (but v.id) s.versions) (fresh s.next_id o v.window v.label) o
    stand None is = let r = root_last q (inner q s.events) s.finished s.versions h.shape id v e is in (cut_root q s h id v e is, r.1, r.2)
    stand (Some p) is =
        let u = parent_is q (inner q s.events) s.finished s.versions h.shape id p v e is in
        record {
          parent = u.0;
          is = older_stays q (inner q s.events) s.finished v.id s.versions h.shape p u.0 u.1 (parent_older q (inner q s.events) s.finished s.versions h.shape id p v e is);
          next = u.2;
          names = u.3;
          apart = λ id' w e' o l.
              let b = cut_back q s v.id h id' w e' in
              b.1 (at_id s.versions id' w b.0 ∙ sym (siblings q (inner q s.events) s.finished s.versions h.shape id id' p v w e b.0 is o (sym l)) ∙ sym (at_id s.versions id v e));
        }

pub roll_keeps : (q : Plan) (s : Machine) (id : ℕ) (v : Version) → version_at s.versions id ≡ Some v → is_some (conflict q s v) ≡ true → Kept q s → Kept q (rolled s (Some v))
roll_keeps q s id v e c h = record {
  sane = roll_sane q s id v e h.sane;
  clear = λ id' w e' root i x. ⊎_elim
      (λ (y : (s.next_id ≡ id') × (fresh s.next_id v.parent v.window v.label ≡ w)). not_root (ap (λ (z : Version). z.parent) y.1 ∙ root))
      (λ (y : (s.next_id ≢ id') × (version_at (prune kin (but v.id) s.versions) id' ≡ Some w)).
      let b = cut_back q s v.id h.sane id' w y.1 in
      h.clear id' w b.0 root i (cut_hit q s v.id h.sane id' w y.1 root i (sym (older_hit q (cut s v.id) (fresh s.next_id v.parent v.window v.label) w i (λ z. y.0 (z ∙ at_id s.versions id' w b.0))) ∙ x)))
      (at_cases (fresh s.next_id v.parent v.window v.label) (prune kin (but v.id) s.versions) id' w e');
}
  where
    not_root : v.parent ≡ None → ⊥
    not_root r = let z = least_some (is_hit q s v) (first q s.events v.window) (size q s.events v.window) (h.clear id v e r) in cc
