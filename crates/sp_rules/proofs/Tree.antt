-- The list of versions: what stands below what, and what a prune keeps.
use Rattle.std.proofs.Common.{◌≡◌, ◌≢◌, ℕ, ◌+◌, ◌<◌, ◌⊎◌, Bool, true, false, cond, ◌||◌, List, [], ◌∷◌, Option, Some, None, is_some, ⊎_elim, refl, sym, ap, ◌∙◌, subst, arith}
use Rattle.std.proofs.lemmas.Bool.Decides.{nat_tests}
use Rattle.sp_base.specs.Numbers.{is_among}
use Rattle.sp_plan.specs.declared.plan.Plan.{Plan}
use Rattle.sp_plan.specs.Runs.{State}
use Rattle.sp_group.specs.Rising.{IsLabel}
use Rattle.sp_group.specs.Family.{parent_there, kept, prune}
use Rattle.sp_group.specs.Machine.{Version, kin, version_at, is_group, is_withheld, withheld_by, suppressed_below, suppressed_by}
use Rattle.sp_rules.specs.Kept.{Child, Stands, Placed, Shape}
use Rattle.sp_rules.proofs.Lists.{or_cases, or_left, or_right}

-- a label names open groups of the parent
abbrev pub Names : Plan → (Version → State) → Version → List ℕ → Type 0
Names q f u label = (r : ℕ) → is_among label r ≡ true → is_group q (f u) r ≡ true

pub at_later : (v : Version) (vs : List Version) (id : ℕ) (w : Version) → id < v.id → version_at vs id ≡ Some w → version_at (v ∷ vs) id ≡ Some w
at_later v vs id w l h = grind (arith, nat_tests)

pub at_cases : (v : Version) (vs : List Version) (id : ℕ) (w : Version) → version_at (v ∷ vs) id ≡ Some w → ((v.id ≡ id) × (v ≡ w)) ⊎ ((v.id ≢ id) × (version_at vs id ≡ Some w))
at_cases v vs id w h = grind (arith, nat_tests)

pub at_id : (vs : List Version) (id : ℕ) (w : Version) → version_at vs id ≡ Some w → w.id ≡ id
at_id [] id w h = absurd (cc)
at_id (v ∷ vs) id w h = ⊎_elim (λ (x : (v.id ≡ id) × (v ≡ w)). subst (λ (u : Version). u.id ≡ id) x.1 x.0) (λ (x : (v.id ≢ id) × (version_at vs id ≡ Some w)). at_id vs id w x.1) (at_cases v vs id w h)

pub at_head : (v : Version) (vs : List Version) → version_at (v ∷ vs) v.id ≡ Some v
at_head v vs = grind (arith, nat_tests)

-- a prune as a relation
pub data Pruned (k : Version → Option Version) : List Version → List Version → Type 0 where
  none : Pruned k [] []
  goes : {v : Version} {vs ws : List Version} → Pruned k vs ws → Pruned k (v ∷ vs) ws
  stays : {v v' : Version} {vs ws : List Version} → k v ≡ Some v' → parent_there kin ws v'.parent ≡ true → Pruned k vs ws → Pruned k (v ∷ vs) (v' ∷ ws)

pub prune_is : (k : Version → Option Version) (vs : List Version) → Pruned k vs (prune kin k vs)
prune_is k [] = none
prune_is k (v ∷ vs) = one (k v) refl (prune_is k vs)
  where
    two : (v' : Version) (ws : List Version) (b : Bool) → k v ≡ Some v' → parent_there kin ws v'.parent ≡ b → Pruned k vs ws → Pruned k (v ∷ vs) (cond b (v' ∷ ws) ws)
    two v' ws true e there h = stays e there h
    two v' ws false e there h = goes h

    one : (o : Option Version) → k v ≡ o → Pruned k vs (prune kin k vs) → Pruned k (v ∷ vs) (kept kin o (prune kin k vs))
    one None e h = goes h
    one (Some v') e h = two v' (prune kin k vs) (parent_there kin (prune kin k vs) v'.parent) e refl h

-- each version of the list
abbrev pub Each : (Version → Type 0) → List Version → Type 0
Each Is vs = (id : ℕ) (v : Version) → version_at vs id ≡ Some v → Is v

pub at_some : (vs : List Version) (p : ℕ) → is_some (version_at vs p) ≡ true → (u : Version) × (version_at vs p ≡ Some u)
at_some vs p h = one (version_at vs p) refl h
  where
    one : (o : Option Version) → version_at vs p ≡ o → is_some o ≡ true → (u : Version) × (version_at vs p ≡ Some u)
    one None e h = absurd (cc)
    one (Some u) e h = (u, e)

module _ (q : Plan) where
  -- what a change of versions keeps
  pub record Prunes (f : Version → State) (k : Version → Option Version) (Is : Version → Type 0) : Type 0 where
    pub same_id : (v v' : Version) → Is v → k v ≡ Some v' → v'.id ≡ v.id
    pub same_parent : (v v' : Version) → Is v → k v ≡ Some v' → v'.parent ≡ v.parent
    pub same_window : (v v' : Version) → Is v → k v ≡ Some v' → v'.window ≡ v.window
    pub labels : (v v' : Version) → Is v → k v ≡ Some v' → IsLabel v.label → IsLabel v'.label
    pub unlabelled : (v v' : Version) → Is v → k v ≡ Some v' → v.label ≡ [] → v'.label ≡ []
    pub edges : (u u' v v' : Version) → Is u → Is v → k u ≡ Some u' → k v ≡ Some v' → v.parent ≡ Some u.id → Names q f u v.label → (i : ℕ) → is_withheld q (f u) v.label i ≡ true → is_withheld q (f u') v'.label i ≡ true
    pub names : (u u' v v' : Version) → Is u → Is v → k u ≡ Some u' → k v ≡ Some v' → v.parent ≡ Some u.id → Names q f u v.label → Names q f u' v'.label
    pub apart : (u u' v v' w w' : Version) → Is u → Is v → Is w → k u ≡ Some u' → k v ≡ Some v' → k w ≡ Some w' → v.parent ≡ Some u.id → w.parent ≡ Some u.id → Names q f u v.label → Names q f u w.label → IsLabel v.label → IsLabel w.label → w'.label ≡ v'.label → w.label ≡ v.label

  pub each_tail : (Is : Version → Type 0) (f : Version → State) (fin : ℕ) (v : Version) (vs : List Version) → Placed q f fin vs v → Each Is (v ∷ vs) → Each Is vs
  each_tail Is f fin v vs p h id w e = h id w (at_later v vs id w (p.newest id w e) e)

  -- what is found after a prune was there before it
  pub from_id : (f : Version → State) (k : Version → Option Version) (Is : Version → Type 0) (fin : ℕ) → ((v v' : Version) → Is v → k v ≡ Some v' → v'.id ≡ v.id) → (vs ws : List Version) → Pruned k vs ws → Shape q f fin vs → Each Is vs → (id : ℕ) (w : Version) → version_at ws id ≡ Some w → (v : Version) × (version_at vs id ≡ Some v) × (k v ≡ Some w)
  from_id f k Is fin g vs ws none s m id w e = absurd (cc)
  from_id f k Is fin g vs0 ws (goes {v = v} {vs = vs} h) s m id w e =
      let x = from_id f k Is fin g vs ws h s.1 (each_tail Is f fin v vs s.0 m) id w e in
      (x.0, at_later v vs id x.0 (s.0.newest id x.0 x.1) x.1, x.2)
  from_id f k Is fin g vs0 ws0 (stays {v = v} {v' = v'} {vs = vs} {ws = ws} kv there h) s m id w e =
      let same = g v v' (m v.id v (at_head v vs)) kv in
      ⊎_elim
      (λ (y : (v'.id ≡ id) × (v' ≡ w)). (v, subst (λ (n : ℕ). version_at (v ∷ vs) n ≡ Some v) (sym same ∙ y.0) (at_head v vs), kv ∙ ap Some y.1))
      (λ (y : (v'.id ≢ id) × (version_at ws id ≡ Some w)).
      let x = from_id f k Is fin g vs ws h s.1 (each_tail Is f fin v vs s.0 m) id w y.1 in
      (x.0, at_later v vs id x.0 (s.0.newest id x.0 x.1) x.1, x.2))
      (at_cases v' ws id w e)

  pub from : (f : Version → State) (k : Version → Option Version) (Is : Version → Type 0) (fin : ℕ) → Prunes f k Is → (vs ws : List Version) → Pruned k vs ws → Shape q f fin vs → Each Is vs → (id : ℕ) (w : Version) → version_at ws id ≡ Some w → (v : Version) × (version_at vs id ≡ Some v) × (k v ≡ Some w)
  from f k Is fin g = from_id f k Is fin g.same_id

  -- what stands below a parent
  pub parent_is : (f : Version → State) (fin : ℕ) (vs : List Version) → Shape q f fin vs → (id p : ℕ) (v : Version) → version_at vs id ≡ Some v → v.parent ≡ Some p → (u : Version) × (version_at vs p ≡ Some u) × (v.window ≡ u.window + 1) × Names q f u v.label
  parent_is f fin [] s id p v e o = absurd (cc)
  parent_is f fin (x ∷ vs) s id p v e o =
      ⊎_elim
      (λ (y : (x.id ≡ id) × (x ≡ v)).
      let st : Stands q f fin vs v (Some p) = subst (λ (z : Option ℕ). Stands q f fin vs v z) o (subst (λ (z : Version). Stands q f fin vs z z.parent) y.1 s.0.stands) in
      (st.parent, at_later x vs p st.parent (s.0.newest p st.parent st.is) st.is, st.next, st.names))
      (λ (y : (x.id ≢ id) × (version_at vs id ≡ Some v)).
      let r = parent_is f fin vs s.1 id p v y.1 o in
      (r.0, at_later x vs p r.0 (s.0.newest p r.0 r.1) r.1, r.2, r.3))
      (at_cases x vs id v e)

  pub parent_older : (f : Version → State) (fin : ℕ) (vs : List Version) → Shape q f fin vs → (id p : ℕ) (v : Version) → version_at vs id ≡ Some v → v.parent ≡ Some p → p < v.id
  parent_older f fin [] s id p v e o = absurd (cc)
  parent_older f fin (x ∷ vs) s id p v e o = ⊎_elim
      (λ (y : (x.id ≡ id) × (x ≡ v)).
      let st : Stands q f fin vs v (Some p) = subst (λ (z : Option ℕ). Stands q f fin vs v z) o (subst (λ (z : Version). Stands q f fin vs z z.parent) y.1 s.0.stands) in
      subst (λ (z : Version). p < z.id) y.1 (s.0.newest p st.parent st.is))
      (λ (y : (x.id ≢ id) × (version_at vs id ≡ Some v)). parent_older f fin vs s.1 id p v y.1 o)
      (at_cases x vs id v e)

  pub label_at : (f : Version → State) (fin : ℕ) (vs : List Version) → Shape q f fin vs → (id : ℕ) (v : Version) → version_at vs id ≡ Some v → IsLabel v.label
  label_at f fin [] s id v e = absurd (cc)
  label_at f fin (x ∷ vs) s id v e =
      ⊎_elim (λ (y : (x.id ≡ id) × (x ≡ v)). subst (λ (z : Version). IsLabel z.label) y.1 s.0.labelled)
      (λ (y : (x.id ≢ id) × (version_at vs id ≡ Some v)). label_at f fin vs s.1 id v y.1)
      (at_cases x vs id v e)

  -- a prune keeps the shape
  pub prune_shape : (f : Version → State) (k : Version → Option Version) (Is : Version → Type 0) (fin : ℕ) → Prunes f k Is → (vs ws : List Version) → Pruned k vs ws → Shape q f fin vs → Each Is vs → Shape q f fin ws
  prune_shape f k Is fin g vs ws none s m = tt
  prune_shape f k Is fin g vs0 ws (goes {v = v} {vs = vs} h) s m = prune_shape f k Is fin g vs ws h s.1 (each_tail Is f fin v vs s.0 m)
  prune_shape f k Is fin g vs0 ws0 (stays {v = v} {v' = v'} {vs = vs} {ws = ws} kv there h) s m =
      (record { newest = newest; labelled = g.labels v v' isv kv s.0.labelled; stands = stand v.parent refl s.0.stands }, prune_shape f k Is fin g vs ws h s.1 deep)
    where
      deep : Each Is vs
      deep = each_tail Is f fin v vs s.0 m

      isv : Is v
      isv = m v.id v (at_head v vs)

      newest : (id : ℕ) (w : Version) → version_at ws id ≡ Some w → id < v'.id
      newest id w e =
          let x = from f k Is fin g vs ws h s.1 deep id w e in
          let y = s.0.newest id x.0 x.1 in
          let same = g.same_id v v' isv kv in
          omega arith

      nothing : (ws : List Version) → Pruned k [] ws → ws ≡ []
      nothing ws none = refl

      child : (p : ℕ) → v.parent ≡ Some p → Child q f vs v p → Child q f ws v' p
      child p is c =
          let there' : is_some (version_at ws p) ≡ true = subst (λ (o : Option ℕ). parent_there kin ws o ≡ true) (g.same_parent v v' isv kv ∙ is) there in
          let a = at_some ws p there' in
          let b = from f k Is fin g vs ws h s.1 deep p a.0 a.1 in
          let same : c.parent ≡ b.0 = cc in
          let isu : Is b.0 = deep p b.0 b.1 in
          let uid : v.parent ≡ Some b.0.id = is ∙ ap Some (sym (at_id vs p b.0 b.1)) in
          let nm : Names q f b.0 v.label = subst (λ (z : Version). Names q f z v.label) same c.names in
          record {
            parent = a.0;
            is = a.1;
            next = g.same_window v v' isv kv ∙ c.next ∙ ap (λ (z : Version). z.window + 1) same ∙ ap (λ (w : ℕ). w + 1) (sym (g.same_window b.0 a.0 isu b.2));
            names = g.names b.0 a.0 v v' isu isv b.2 kv uid nm;
            apart = λ id w e wp wl.
                let x = from f k Is fin g vs ws h s.1 deep id w e in
                let isw : Is x.0 = deep id x.0 x.1 in
                let wpar : x.0.parent ≡ Some p = sym (g.same_parent x.0 w isw x.2) ∙ wp in
                let above = parent_is f fin vs s.1 id p x.0 x.1 wpar in
                let samew : above.0 ≡ b.0 = cc in
                let nmw : Names q f b.0 x.0.label = subst (λ (z : Version). Names q f z x.0.label) samew above.3 in
                c.apart id x.0 x.1 wpar (g.apart b.0 a.0 v v' x.0 w isu isv isw b.2 kv x.2 uid (wpar ∙ ap Some (sym (at_id vs p b.0 b.1))) nm nmw s.0.labelled (label_at f fin vs s.1 id x.0 x.1) wl);
          }

      stand : (o : Option ℕ) → v.parent ≡ o → Stands q f fin vs v o → Stands q f fin ws v' v'.parent
      stand None is st = subst (λ (o : Option ℕ). Stands q f fin ws v' o) {x = None} (sym is ∙ sym (g.same_parent v v' isv kv)) (nothing ws (subst (λ (z : List Version). Pruned k z ws) st.0 h), g.same_window v v' isv kv ∙ st.1, g.unlabelled v v' isv kv st.2)
      stand (Some p) is st = subst (λ (o : Option ℕ). Stands q f fin ws v' o) {x = Some p} (sym is ∙ sym (g.same_parent v v' isv kv)) (child p is st)

  pub supp_head : (f : Version → State) (c : List ℕ) (v : Version) (vs : List Version) (id i : ℕ) → v.id ≡ id → suppressed_by q f c (v ∷ vs) id i ≡ suppressed_below q f c (suppressed_by q f c vs) (version_at vs) v.parent v.label i
  supp_head f c v vs id i e = grind (arith, nat_tests)

  pub supp_later : (f : Version → State) (c : List ℕ) (v : Version) (vs : List Version) (id i : ℕ) → v.id ≢ id → suppressed_by q f c (v ∷ vs) id i ≡ suppressed_by q f c vs id i
  supp_later f c v vs id i e = grind (arith, nat_tests)

  -- what is suppressed for a version that stays only grows
  pub prune_grows : (f : Version → State) (c : List ℕ) (k : Version → Option Version) (Is : Version → Type 0) (fin : ℕ) → Prunes f k Is → (vs ws : List Version) → Pruned k vs ws → Shape q f fin vs → Each Is vs → (id : ℕ) (w : Version) → version_at ws id ≡ Some w → (i : ℕ) → suppressed_by q f c vs id i ≡ true → suppressed_by q f c ws id i ≡ true
  prune_grows f c k Is fin g vs ws none s m id w e i h = absurd (cc)
  prune_grows f c k Is fin g vs0 ws (goes {v = v} {vs = vs} p) s m id w e i h =
      let x = from f k Is fin g vs ws p s.1 (each_tail Is f fin v vs s.0 m) id w e in
      let l = s.0.newest id x.0 x.1 in
      let h' : suppressed_by q f c vs id i ≡ true = grind (arith, nat_tests) in
      prune_grows f c k Is fin g vs ws p s.1 (each_tail Is f fin v vs s.0 m) id w e i h'
  prune_grows f c k Is fin g vs0 ws0 (stays {v = v} {v' = v'} {vs = vs} {ws = ws} kv there p) s m id w e i h =
      ⊎_elim
      (λ (y : (v'.id ≡ id) × (v' ≡ w)).
      supp_head f c v' ws id i y.0 ∙ stand (λ o' u uis hs. prune_grows f c k Is fin g vs ws p s.1 deep o' u uis i hs) v.parent refl s.0.stands (sym (supp_head f c v vs id i (sym same ∙ y.0)) ∙ h))
      (λ (y : (v'.id ≢ id) × (version_at ws id ≡ Some w)).
      supp_later f c v' ws id i y.0 ∙ prune_grows f c k Is fin g vs ws p s.1 deep id w y.1 i (sym (supp_later f c v vs id i (λ o'. y.0 (same ∙ o'))) ∙ h))
      (at_cases v' ws id w e)
    where
      deep : Each Is vs
      deep = each_tail Is f fin v vs s.0 m

      isv : Is v
      isv = m v.id v (at_head v vs)

      same : v'.id ≡ v.id
      same = g.same_id v v' isv kv

      samep : v'.parent ≡ v.parent
      samep = g.same_parent v v' isv kv

      child : ((o' : ℕ) (u : Version) → version_at ws o' ≡ Some u → suppressed_by q f c vs o' i ≡ true → suppressed_by q f c ws o' i ≡ true) → (o' : ℕ) → v.parent ≡ Some o' → Child q f vs v o' → (suppressed_by q f c vs o' i || withheld_by q f (version_at vs o') v.label i) ≡ true → (suppressed_by q f c ws o' i || withheld_by q f (version_at ws o') v'.label i) ≡ true
      child ih o' is ch hb =
          let there' : is_some (version_at ws o') ≡ true = subst (λ (o : Option ℕ). parent_there kin ws o ≡ true) (samep ∙ is) there in
          let a = at_some ws o' there' in
          let b = from f k Is fin g vs ws p s.1 deep o' a.0 a.1 in
          let sameu : ch.parent ≡ b.0 = cc in
          let nm : Names q f b.0 v.label = subst (λ (z : Version). Names q f z v.label) sameu ch.names in
          ⊎_elim
          (λ (z : suppressed_by q f c vs o' i ≡ true). or_left (suppressed_by q f c ws o' i) (withheld_by q f (version_at ws o') v'.label i) (ih o' a.0 a.1 z))
          (λ (z : withheld_by q f (version_at vs o') v.label i ≡ true).
          let z' : is_withheld q (f b.0) v.label i ≡ true = subst (λ (o : Option Version). withheld_by q f o v.label i ≡ true) b.1 z in
          or_right (suppressed_by q f c ws o' i) (withheld_by q f (version_at ws o') v'.label i)
          (subst (λ (o : Option Version). withheld_by q f o v'.label i ≡ true) (sym a.1)
          (g.edges b.0 a.0 v v' (deep o' b.0 b.1) isv b.2 kv (is ∙ ap Some (sym (at_id vs o' b.0 b.1))) nm i z')))
          (or_cases (suppressed_by q f c vs o' i) (withheld_by q f (version_at vs o') v.label i) hb)

      stand : ((o' : ℕ) (u : Version) → version_at ws o' ≡ Some u → suppressed_by q f c vs o' i ≡ true → suppressed_by q f c ws o' i ≡ true) → (o : Option ℕ) → v.parent ≡ o → Stands q f fin vs v o → suppressed_below q f c (suppressed_by q f c vs) (version_at vs) v.parent v.label i ≡ true → suppressed_below q f c (suppressed_by q f c ws) (version_at ws) v'.parent v'.label i ≡ true
      stand ih None is st hb =
          subst (λ (o : Option ℕ). suppressed_below q f c (suppressed_by q f c ws) (version_at ws) o v'.label i ≡ true) (sym (samep ∙ is))
          (subst (λ (o : Option ℕ). suppressed_below q f c (suppressed_by q f c vs) (version_at vs) o v.label i ≡ true) is hb)
      stand ih (Some o') is st hb =
          subst (λ (o : Option ℕ). suppressed_below q f c (suppressed_by q f c ws) (version_at ws) o v'.label i ≡ true) (sym (samep ∙ is))
          (child ih o' is st (subst (λ (o : Option ℕ). suppressed_below q f c (suppressed_by q f c vs) (version_at vs) o v.label i ≡ true) is hb))
