-- A finish makes no conflict where there is none: what the root that goes used, or kept back, was suppressed for all below it.
use Rattle.std.proofs.Common.{◌≡◌, ◌≢◌, ℕ, ◌+◌, true, cond, not, ◌||◌, List, [], ◌∷◌, Option, Some, None, is_some, ⊎_elim, refl, sym, ap, ◌∙◌, subst, arith}
use Rattle.sp_base.proofs.RisingLists.{mem_cases}
use Rattle.sp_base.specs.Numbers.{is_among, with_numbers}
use Rattle.sp_plan.specs.declared.event.Event.{Event}
use Rattle.sp_plan.specs.declared.plan.Plan.{Plan}
use Rattle.sp_plan.specs.Runs.{State}
use Rattle.sp_plan.specs.Groups.{used_by_all}
use Rattle.sp_group.specs.declared.step.Step.TheVariants as s
use Rattle.sp_group.specs.Family.{parent_there}
use Rattle.sp_group.specs.Machine.{Version, Machine, kin, version_at, root_in, is_bare, is_hit, inner, is_named, is_withheld, withheld_by, suppressed_below, suppressed_by, is_suppressed}
use Rattle.sp_group.specs.Refusing.{refusal, finish_refusal}
use Rattle.sp_group.specs.Effects.{promoted, popped, settled, finished_one, effect, rolled}
use Rattle.sp_rules.specs.Kept.{Stands, Shape, Sane}
use Rattle.sp_rules.proofs.Lists.{or_cases, or_left, or_right}
use Rattle.sp_rules.proofs.Tree.{at_cases, at_id, at_some, Pruned, none, goes, stays, prune_is, supp_head, supp_later}
use Rattle.sp_rules.proofs.Locals.{root_is, root_supp}
use Rattle.sp_rules.proofs.Home.{HasRead, hit_cases, hit_read, hit_bare}
use Rattle.sp_rules.proofs.Finish.{Promoted, up, idle_one, promoted_is, rises_id, rises_inner, back, pop_shape, done_idle}
use Rattle.sp_rules.proofs.Steps.{passes_if, not_false}
use Rattle.sp_spread.specs.Calm.{AreCalm}
use Rattle.sp_spread.proofs.Conflicts.{stays_clear}

-- the root of the tail is the root of the list
root_tail : (v : Version) (vs : List Version) (r : Version) (p : ℕ) → v.parent ≡ Some p → root_in (v ∷ vs) ≡ Some r → root_in vs ≡ Some r
root_tail v vs r p o h = grind (arith, o)

root_head : (v : Version) (vs : List Version) (r : Version) → v.parent ≡ None → root_in (v ∷ vs) ≡ Some r → v ≡ r
root_head v vs r o h = grind (arith, o)

rises_not : (r : ℕ) (v v' : Version) → Promoted r v v' → v.id ≢ r
rises_not r v v' (up n p e) = n
rises_not r v v' (idle_one n p e) = n

-- what is suppressed below the root that went was so before, by the root's matches or as consumed
from_root : (q : Plan) (f : Version → State) (c : List ℕ) (vs : List Version) (r : Version) (l : List ℕ) (i : ℕ) → version_at vs r.id ≡ Some r → r.parent ≡ None
    → is_among (with_numbers c (used_by_all q (f r))) i ≡ true → suppressed_below q f c (suppressed_by q f c vs) (version_at vs) (Some r.id) l i ≡ true
from_root q f c vs r l i at root h = ⊎_elim
    (λ (y : is_among c i ≡ true). or_left (suppressed_by q f c vs r.id i) (withheld_by q f (version_at vs r.id) l i) (root_supp q f c vs r.id r at root i ∙ y))
    (λ (y : is_among (used_by_all q (f r)) i ≡ true). or_right (suppressed_by q f c vs r.id i) (withheld_by q f (version_at vs r.id) l i)
    (subst (λ (o : Option Version). withheld_by q f o l i ≡ true) (sym at) (or_left (is_among (used_by_all q (f r)) i) (is_named q (f r) l i) y)))
    (mem_cases i c (used_by_all q (f r)) h)

module _ (q : Plan) (E : List Event) (fin : ℕ) (r : Version) where
  -- the rest of what a prune of the root looked at has the same root
  tail_root : (vs : List Version) (v v' : Version) → promoted r.id v ≡ Some v' → root_in (v ∷ vs) ≡ Some r → root_in vs ≡ Some r
  tail_root vs v v' kv root = one v.parent refl
    where
      one : (o : Option ℕ) → v.parent ≡ o → root_in vs ≡ Some r
      one None is = absurd (rises_not r.id v v' (promoted_is r.id v v' kv) (ap (λ (z : Version). z.id) (root_head v vs r is root)))
      one (Some m) is = root_tail v vs r m is root

  -- what is suppressed for a version that stays was so before
  pop_shrinks : (c : List ℕ) (vs ws : List Version) → Pruned (promoted r.id) vs ws → Shape q (inner q E) fin vs → root_in vs ≡ Some r → (id : ℕ) (w : Version) → version_at ws id ≡ Some w
      → (i : ℕ) → suppressed_by q (inner q E) (with_numbers c (used_by_all q (inner q E r))) ws id i ≡ true → suppressed_by q (inner q E) c vs id i ≡ true
  pop_shrinks c vs ws none s root id w e i h = absurd (cc)
  pop_shrinks c vs0 ws (goes {v = v} {vs = vs} p) s root id w e i h = one v.parent refl s.0.stands (λ rt. pop_shrinks c vs ws p s.1 rt id w e i h)
    where
      empty : (ws : List Version) → Pruned (promoted r.id) [] ws → version_at ws id ≡ Some w → ⊥
      empty ws none e = cc

      one : (o : Option ℕ) → v.parent ≡ o → Stands q (inner q E) fin vs v o → (root_in vs ≡ Some r → suppressed_by q (inner q E) c vs id i ≡ true) → suppressed_by q (inner q E) c (v ∷ vs) id i ≡ true
      one None is st ih = absurd (empty ws (subst (λ (z : List Version). Pruned (promoted r.id) z ws) st.0 p) e)
      one (Some m) is st ih =
          let x = back q (inner q E) r.id fin vs ws p s.1 id w e in
          let l = s.0.newest id x.0 x.1 in
          supp_later q (inner q E) c v vs id i (λ y. absurd (omega (arith, l, y))) ∙ ih (root_tail v vs r m is root)
  pop_shrinks c vs0 ws0 (stays {v = v} {v' = v'} {vs = vs} {ws = ws} kv there p) s root id w e i h = ⊎_elim
      (λ (y : (v'.id ≡ id) × (v' ≡ w)).
      supp_head q (inner q E) c v vs id i (sym vid ∙ y.0)
      ∙ one v.parent refl s.0.stands (promoted_is r.id v v' kv) (λ m u em x. pop_shrinks c vs ws p s.1 (tail_root vs v v' kv root) m u em i x) (sym (supp_head q (inner q E) (with_numbers c (used_by_all q (inner q E r))) v' ws id i y.0) ∙ h))
      (λ (y : (v'.id ≢ id) × (version_at ws id ≡ Some w)).
      supp_later q (inner q E) c v vs id i (λ z. y.0 (vid ∙ z))
      ∙ pop_shrinks c vs ws p s.1 (tail_root vs v v' kv root) id w y.1 i (sym (supp_later q (inner q E) (with_numbers c (used_by_all q (inner q E r))) v' ws id i y.0) ∙ h))
      (at_cases v' ws id w e)
    where
      vid : v'.id ≡ v.id
      vid = rises_id r.id v v' (promoted_is r.id v v' kv)

      one : (o : Option ℕ) → v.parent ≡ o → Stands q (inner q E) fin vs v o → Promoted r.id v v'
          → ((m : ℕ) (u : Version) → version_at ws m ≡ Some u → suppressed_by q (inner q E) (with_numbers c (used_by_all q (inner q E r))) ws m i ≡ true → suppressed_by q (inner q E) c vs m i ≡ true)
          → suppressed_below q (inner q E) (with_numbers c (used_by_all q (inner q E r))) (suppressed_by q (inner q E) (with_numbers c (used_by_all q (inner q E r))) ws) (version_at ws) v'.parent v'.label i ≡ true
          → suppressed_below q (inner q E) c (suppressed_by q (inner q E) c vs) (version_at vs) v.parent v.label i ≡ true
      one None is st rs ih hb = absurd (rises_not r.id v v' rs (ap (λ (z : Version). z.id) (root_head v vs r is root)))
      one (Some m) is st (up n vp ev) ih hb =
          let ri = root_is q (inner q E) fin vs s.1 r (tail_root vs v v' kv root) in
          let hb' : is_among (with_numbers c (used_by_all q (inner q E r))) i ≡ true =
          subst (λ (o : Option ℕ). suppressed_below q (inner q E) (with_numbers c (used_by_all q (inner q E r))) (suppressed_by q (inner q E) (with_numbers c (used_by_all q (inner q E r))) ws) (version_at ws) o v'.label i ≡ true) (ap (λ (z : Version). z.parent) ev) hb in
          subst (λ (o : Option ℕ). suppressed_below q (inner q E) c (suppressed_by q (inner q E) c vs) (version_at vs) o v.label i ≡ true) (sym vp) (from_root q (inner q E) c vs r v.label i ri.0 ri.1 hb')
      one (Some m) is st (idle_one n vp ev) ih hb =
          let v'p : v'.parent ≡ Some m = ap (λ (z : Version). z.parent) ev ∙ is in
          let a = at_some ws m (subst (λ (o : Option ℕ). parent_there kin ws o ≡ true) v'p there) in
          let b = back q (inner q E) r.id fin vs ws p s.1 m a.0 a.1 in
          let hb' : (suppressed_by q (inner q E) (with_numbers c (used_by_all q (inner q E r))) ws m i || withheld_by q (inner q E) (version_at ws m) v'.label i) ≡ true =
          subst (λ (o : Option ℕ). suppressed_below q (inner q E) (with_numbers c (used_by_all q (inner q E r))) (suppressed_by q (inner q E) (with_numbers c (used_by_all q (inner q E r))) ws) (version_at ws) o v'.label i ≡ true) v'p hb in
          subst (λ (o : Option ℕ). suppressed_below q (inner q E) c (suppressed_by q (inner q E) c vs) (version_at vs) o v.label i ≡ true) (sym is)
          (⊎_elim
          (λ (y : suppressed_by q (inner q E) (with_numbers c (used_by_all q (inner q E r))) ws m i ≡ true). or_left (suppressed_by q (inner q E) c vs m i) (withheld_by q (inner q E) (version_at vs m) v.label i) (ih m a.0 a.1 y))
          (λ (y : withheld_by q (inner q E) (version_at ws m) v'.label i ≡ true).
          let y' : is_withheld q (inner q E a.0) v'.label i ≡ true = subst (λ (o : Option Version). withheld_by q (inner q E) o v'.label i ≡ true) a.1 y in
          or_right (suppressed_by q (inner q E) c vs m i) (withheld_by q (inner q E) (version_at vs m) v.label i)
          (subst (λ (o : Option Version). withheld_by q (inner q E) o v.label i ≡ true) (sym b.1)
          (subst (λ (z : State). is_withheld q z v.label i ≡ true) (rises_inner q E r.id b.0 a.0 b.2)
          (subst (λ (l : List ℕ). is_withheld q (inner q E a.0) l i ≡ true) (ap (λ (z : Version). z.label) ev) y'))))
          (or_cases (suppressed_by q (inner q E) (with_numbers c (used_by_all q (inner q E r))) ws m i) (withheld_by q (inner q E) (version_at ws m) v'.label i) hb'))

pub rises_window : (r : ℕ) (v v' : Version) → Promoted r v v' → v'.window ≡ v.window
rises_window r v v' (up n p e) = ap (λ (z : Version). z.window) e
rises_window r v v' (idle_one n p e) = ap (λ (z : Version). z.window) e

rises_read : (q : Plan) (E : List Event) (r : ℕ) (v v' : Version) (i : ℕ) → Promoted r v v' → HasRead q E v' i → HasRead q E v i
rises_read q E r v v' i (up n p e) h = subst (λ (z : Version). HasRead q E z i) e h
rises_read q E r v v' i (idle_one n p e) h = subst (λ (z : Version). HasRead q E z i) e h

pub popped_hit : (q : Plan) (m : Machine) (r : Version) → Sane q m → root_in m.versions ≡ Some r → (id : ℕ) (w : Version) → version_at (popped q m r).versions id ≡ Some w
    → (v : Version) → Promoted r.id v w → (i : ℕ) → is_hit q (popped q m r) w i ≡ true → is_hit q m v i ≡ true
popped_hit q m r h root id w e v rises i x =
    let o = hit_cases q (popped q m r) w i x in
    let wid = at_id (popped q m r).versions id w e in
    let same : w.id ≡ v.id = rises_id r.id v w rises in
    let e' : version_at (popped q m r).versions w.id ≡ Some w = subst (λ (z : ℕ). version_at (popped q m r).versions z ≡ Some w) (sym wid) e in
    let before : is_suppressed q m w.id i ≡ true = pop_shrinks q m.events m.finished r m.consumed m.versions (popped q m r).versions (prune_is (promoted r.id) m.versions) h.shape root w.id w e' i o.0 in
    let sup : is_suppressed q m v.id i ≡ true = subst (λ (z : ℕ). is_suppressed q m z i ≡ true) same before in
    ⊎_elim (λ (y : HasRead q m.events w i). hit_read q m v i sup (rises_read q m.events r.id v w i rises y))
    (λ (y : is_bare m.tickets w.id i ≡ true). hit_bare q m v i sup (subst (λ (z : ℕ). is_bare m.tickets z i ≡ true) same y)) o.1

popped_calm : (q : Plan) (m : Machine) (r : Version) → Sane q m → root_in m.versions ≡ Some r → AreCalm q m → AreCalm q (popped q m r)
popped_calm q m r h root calm id w e =
    let b = back q (inner q m.events) r.id m.finished m.versions (popped q m r).versions (prune_is (promoted r.id) m.versions) h.shape id w e in
    stays_clear q m (popped q m r) b.0 w refl (rises_window r.id b.0 w b.2) (popped_hit q m r h root id w e b.0 b.2) (calm id b.0 b.1)

-- where nothing is in conflict, the heir is not renewed
settled_calm : (q : Plan) (m : Machine) → AreCalm q m → ((v : Version) → root_in m.versions ≡ Some v → version_at m.versions v.id ≡ Some v) → AreCalm q (settled q m (root_in m.versions))
settled_calm q m calm at = one (root_in m.versions) refl
  where
    one : (o : Option Version) → root_in m.versions ≡ o → AreCalm q (settled q m o)
    one None is = calm
    one (Some u) is = subst (λ (o : Option ℕ). AreCalm q (cond (is_some o) (rolled m (Some u)) m)) (sym (calm u.id u (at u is))) calm

pub finish_is_calm : (q : Plan) (bound : ℕ) (m : Machine) → Sane q m → refusal q bound m s.Finish ≡ None → AreCalm q m → AreCalm q (effect q m s.Finish)
finish_is_calm q bound m h accepted calm = one (root_in m.versions) refl accepted
  where
    one : (o : Option Version) → root_in m.versions ≡ o → finish_refusal m o ≡ None → AreCalm q (finished_one q m o)
    one None root accepted = calm
    one (Some r) root accepted =
        let done = not_false r.done (passes_if (not r.done) _ _ accepted).0 in
        let shape = pop_shape q m.events m.finished r (done_idle q m.events r done) m.versions (popped q m r).versions (prune_is (promoted r.id) m.versions) h.shape root in
        settled_calm q (popped q m r) (popped_calm q m r h root calm) (λ u is. (root_is q (inner q m.events) (m.finished + 1) (popped q m r).versions shape u is).0)
