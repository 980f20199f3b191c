-- A finish keeps what every state keeps.
use Rattle.std.proofs.Common.{◌≡◌, ◌≢◌, ℕ, suc, ◌+◌, ◌<◌, ◌≤◌, Bool, true, false, cond, ◌||◌, ◌==◌, List, [], ◌∷◌, ◌++◌, length, map, Option, Some, None, is_some, ⊎_elim, refl, sym, ap, ◌∙◌, subst, arith}
use Rattle.std.specs.Prelude.{⊤}
use Rattle.std.specs.List.{enumerate_from}
use Rattle.std.proofs.lemmas.Bool.Decides.{nat_tests}
use Rattle.sp_base.proofs.RisingLists.{mem_left, mem_right, numbers_append, among_sorted}
use Rattle.sp_base.specs.Numbers.{is_among, with_numbers}
use Rattle.sp_plan.specs.declared.event.Event.{Event}
use Rattle.sp_plan.specs.declared.found.Match.{Match}
use Rattle.sp_plan.specs.declared.plan.Plan.{Plan}
use Rattle.sp_plan.specs.Runs.{State, after_closing, matched_runs}
use Rattle.sp_plan.specs.Reading.{reading}
use Rattle.sp_plan.specs.Sequential.{Progress, seq, match_of, after_window}
use Rattle.sp_plan.specs.WindowNumbers.{first, size}
use Rattle.sp_plan.specs.Groups.{used_by_all}
use Rattle.sp_group.specs.Rising.{IsLabel}
use Rattle.sp_group.specs.Family.{is_parent, parent_there, prune}
use Rattle.sp_group.specs.Machine.{Version, Machine, kin, version_at, root_in, is_bare, is_hit, conflict, inner, is_group, is_named, is_withheld, withheld_by, suppressed_below, suppressed_by, is_suppressed}
use Rattle.sp_group.specs.Effects.{fresh, but, promoted, rolled, popped, settled, finished_one, new_matches}
use Rattle.sp_rules.specs.Kept.{Child, Stands, Placed, Shape, Local, Sane, Kept}
use Rattle.sp_rules.proofs.Facts.{Facts}
use Rattle.sp_rules.proofs.Lists.{or_cases, or_left, or_right, same_bool, least_none}
use Rattle.sp_rules.proofs.Labels.{child_is, no_child, named_is}
use Rattle.sp_rules.proofs.Tree.{Names, at_cases, at_some, Pruned, none, goes, stays, prune_is, from_id, parent_is, supp_head, supp_later}
use Rattle.sp_rules.proofs.Locals.{local_grows, root_last, root_is, rootless, root_supp}
use Rattle.sp_rules.proofs.Tickets.{at_bare}
use Rattle.sp_rules.proofs.Spawning.{fresh_clear}
use Rattle.sp_rules.proofs.Home.{hit_cases, hit_read}
use Rattle.sp_rules.proofs.Roll.{roll_sane, cut_root}

pub data Promoted (r : ℕ) (v v' : Version) : Type 0 where
  up : v.id ≢ r → v.parent ≡ Some r → v' ≡ record v { parent = None } → Promoted r v v'
  idle_one : v.id ≢ r → (v.parent ≡ Some r → ⊥) → v' ≡ v → Promoted r v v'

pub promoted_is : (r : ℕ) (v v' : Version) → promoted r v ≡ Some v' → Promoted r v v'
promoted_is r v v' e = one (v.id == r) refl e
  where
    two : (b : Bool) → is_parent r v.parent ≡ b → v.id ≢ r → cond b (Some (record v { parent = None })) (Some v) ≡ Some v' → Promoted r v v'
    two true is n e = up n (child_is r v.parent is) (cc)
    two false is n e = idle_one n (no_child r v.parent is) (cc)

    one : (b : Bool) → (v.id == r) ≡ b → cond b None (cond (is_parent r v.parent) (Some (record v { parent = None })) (Some v)) ≡ Some v' → Promoted r v v'
    one true is e = absurd (cc)
    one false is e = two (is_parent r v.parent) refl (grind (arith, nat_tests)) e

pub rises_id : (r : ℕ) (v v' : Version) → Promoted r v v' → v'.id ≡ v.id
rises_id r v v' (up n p e) = ap (λ (z : Version). z.id) e
rises_id r v v' (idle_one n p e) = ap (λ (z : Version). z.id) e

rises_label : (r : ℕ) (v v' : Version) → Promoted r v v' → v'.label ≡ v.label
rises_label r v v' (up n p e) = ap (λ (z : Version). z.label) e
rises_label r v v' (idle_one n p e) = ap (λ (z : Version). z.label) e

rises_window : (r : ℕ) (v v' : Version) → Promoted r v v' → v'.window ≡ v.window
rises_window r v v' (up n p e) = ap (λ (z : Version). z.window) e
rises_window r v v' (idle_one n p e) = ap (λ (z : Version). z.window) e

pub rises_inner : (q : Plan) (E : List Event) (r : ℕ) (v v' : Version) → Promoted r v v' → inner q E v' ≡ inner q E v
rises_inner q E r v v' (up n p e) = ap (inner q E) e
rises_inner q E r v v' (idle_one n p e) = ap (inner q E) e

rises_not : (r : ℕ) (v v' : Version) → Promoted r v v' → v.id ≢ r
rises_not r v v' (up n p e) = n
rises_not r v v' (idle_one n p e) = n

any : Version → Type 0
any v = ⊤

pub back : (q : Plan) (f : Version → State) (r fin : ℕ) (vs ws : List Version) → Pruned (promoted r) vs ws → Shape q f fin vs → (id : ℕ) (w : Version) → version_at ws id ≡ Some w → (v : Version) × (version_at vs id ≡ Some v) × Promoted r v w
unfolding any
back q f r fin vs ws p s id w e =
    let x = from_id q f (promoted r) any fin (λ v v' _ k. rises_id r v v' (promoted_is r v v' k)) vs ws p s (λ i v e. tt) id w e in
    (x.0, x.1, promoted_is r x.0 w x.2)

-- a label of a version that has no group
no_label : (q : Plan) (f : Version → State) (u : Version) (l : List ℕ) → ((n : ℕ) → is_group q (f u) n ≡ true → ⊥) → Names q f u l → l ≡ []
no_label q f u [] h n = refl
no_label q f u (x ∷ l) h n = absurd (h x (n x (grind (arith, nat_tests))))

-- the root of the tail is the root of the list
root_tail : (v : Version) (vs : List Version) (r : Version) (p : ℕ) → v.parent ≡ Some p → root_in (v ∷ vs) ≡ Some r → root_in vs ≡ Some r
root_tail v vs r p o h = grind (arith, o)

root_head : (v : Version) (vs : List Version) (r : Version) → v.parent ≡ None → root_in (v ∷ vs) ≡ Some r → v ≡ r
root_head v vs r o h = grind (arith, o)

-- what stands below the root that goes is the new root, alone
module _ (q : Plan) (E : List Event) (fin : ℕ) (r : Version) (idle : (n : ℕ) → is_group q (inner q E r) n ≡ true → ⊥) where
  -- a root of the pruned list was a child of the old root, with an empty label
  was_child : (vs ws : List Version) → Pruned (promoted r.id) vs ws → Shape q (inner q E) fin vs → root_in vs ≡ Some r → (id : ℕ) (w : Version) → version_at ws id ≡ Some w → w.parent ≡ None → (v : Version) × (version_at vs id ≡ Some v) × (v.parent ≡ Some r.id) × (v.label ≡ []) × (w ≡ record v { parent = None })
  was_child vs ws p s root id w e o = let b = back q (inner q E) r.id fin vs ws p s id w e in one b.0 b.1 b.2
    where
      one : (v : Version) → version_at vs id ≡ Some v → Promoted r.id v w → (v : Version) × (version_at vs id ≡ Some v) × (v.parent ≡ Some r.id) × (v.label ≡ []) × (w ≡ record v { parent = None })
      one v ev (up n vp ew) =
          let u = parent_is q (inner q E) fin vs s id r.id v ev vp in
          let ri = (root_is q (inner q E) fin vs s r root).0 in
          let same : u.0 ≡ r = cc in
          (v, ev, vp, no_label q (inner q E) r v.label idle (subst (λ (z : Version). Names q (inner q E) z v.label) same u.3), ew)
      one v ev (idle_one n vp ew) =
          let vo : v.parent ≡ None = ap (λ (z : Version). z.parent) (sym ew) ∙ o in
          let l = (root_last q (inner q E) fin vs s id v ev vo).0 in
          let e' : v ≡ r = cc in
          absurd (n (ap (λ (z : Version). z.id) e'))

  pub pop_shape : (vs ws : List Version) → Pruned (promoted r.id) vs ws → Shape q (inner q E) fin vs → root_in vs ≡ Some r → Shape q (inner q E) (fin + 1) ws
  pop_shape vs ws none s root = tt
  pop_shape vs0 ws (goes {v = v} {vs = vs} p) s root = one v.parent refl s.0.stands (pop_shape vs ws p s.1)
    where
      empty : (ws : List Version) → Pruned (promoted r.id) [] ws → Shape q (inner q E) (fin + 1) ws
      empty ws none = tt

      one : (o : Option ℕ) → v.parent ≡ o → Stands q (inner q E) fin vs v o → (root_in vs ≡ Some r → Shape q (inner q E) (fin + 1) ws) → Shape q (inner q E) (fin + 1) ws
      one None is st ih = empty ws (subst (λ (z : List Version). Pruned (promoted r.id) z ws) st.0 p)
      one (Some m) is st ih = ih (root_tail v vs r m is root)
  pop_shape vs0 ws0 (stays {v = v} {v' = v'} {vs = vs} {ws = ws} kv there p) s root =
      one v.parent refl s.0.stands (promoted_is r.id v v' kv) (pop_shape vs ws p s.1)
    where
      newest : (id : ℕ) (w : Version) → version_at ws id ≡ Some w → id < v'.id
      newest id w e =
          let b = back q (inner q E) r.id fin vs ws p s.1 id w e in
          let n = s.0.newest id b.0 b.1 in
          let i = rises_id r.id v v' (promoted_is r.id v v' kv) in
          omega arith

      placed : Stands q (inner q E) (fin + 1) ws v' v'.parent → Placed q (inner q E) (fin + 1) ws v'
      placed st = record { newest = newest; labelled = subst IsLabel (sym (rises_label r.id v v' (promoted_is r.id v v' kv))) s.0.labelled; stands = st }

      lone : v.parent ≡ Some r.id → Child q (inner q E) vs v r.id → v.label ≡ [] → root_in vs ≡ Some r → Shape q (inner q E) (fin + 1) ws → ws ≡ []
      lone vp c vl rt sh = rootless q (inner q E) (fin + 1) ws sh (two (root_in ws) refl)
        where
          two : (o : Option Version) → root_in ws ≡ o → o ≡ None
          two None is = refl
          two (Some x) is =
              let y = root_is q (inner q E) (fin + 1) ws sh x is in
              let z = was_child vs ws p s.1 rt x.id x y.0 y.1 in
              absurd (c.apart x.id z.0 z.1 z.2 (z.3 ∙ sym vl))

      one : (o : Option ℕ) → v.parent ≡ o → Stands q (inner q E) fin vs v o → Promoted r.id v v' → (root_in vs ≡ Some r → Shape q (inner q E) (fin + 1) ws) → Shape q (inner q E) (fin + 1) (v' ∷ ws)
      one None is st rs ih = absurd (rises_not r.id v v' rs (ap (λ (z : Version). z.id) (root_head v vs r is root)))
      one (Some m) is st (up n vp e) ih =
          let rt = root_tail v vs r m is root in
          let sh = ih rt in
          let mr : m ≡ r.id = some_same m r.id (sym is ∙ vp) in
          let c : Child q (inner q E) vs v r.id = subst (λ (z : ℕ). Child q (inner q E) vs v z) mr st in
          let ri = root_is q (inner q E) fin vs s.1 r rt in
          let rl = root_last q (inner q E) fin vs s.1 r.id r ri.0 ri.1 in
          let same : c.parent ≡ r = some_version c.parent r (sym c.is ∙ ri.0) in
          let vl = no_label q (inner q E) r v.label idle (subst (λ (z : Version). Names q (inner q E) z v.label) same c.names) in (
            placed (subst (λ (o : Option ℕ). Stands q (inner q E) (fin + 1) ws v' o) (sym (ap (λ (z : Version). z.parent) e))
                (lone vp c vl rt sh, ap (λ (z : Version). z.window) e ∙ c.next ∙ ap (λ (z : Version). z.window + 1) same ∙ ap (λ (w : ℕ). w + 1) rl.1, ap (λ (z : Version). z.label) e ∙ vl)),
            sh,
          )
        where
          some_same : (a b : ℕ) → Some a ≡ Some b → a ≡ b
          some_same a b h = cc

          some_version : (a b : Version) → Some a ≡ Some b → a ≡ b
          some_version a b h = cc
      one (Some m) is st (idle_one n vp e) ih =
          let rt = root_tail v vs r m is root in
          let sh = ih rt in
          let v'p : v'.parent ≡ Some m = ap (λ (z : Version). z.parent) e ∙ is in
          let th : is_some (version_at ws m) ≡ true = subst (λ (o : Option ℕ). parent_there kin ws o ≡ true) v'p there in
          let a = at_some ws m th in
          let b = back q (inner q E) r.id fin vs ws p s.1 m a.0 a.1 in
          let sm : st.parent ≡ b.0 = some_version st.parent b.0 (sym st.is ∙ b.1) in (
            placed (subst (λ (o : Option ℕ). Stands q (inner q E) (fin + 1) ws v' o) (sym v'p) (record {
              parent = a.0;
              is = a.1;
              next = ap (λ (z : Version). z.window) e ∙ st.next ∙ ap (λ (z : Version). z.window + 1) sm ∙ ap (λ (w : ℕ). w + 1) (sym (rises_window r.id b.0 a.0 b.2));
              names = λ k mm. ap (λ (z : State). is_group q z k) (rises_inner q E r.id b.0 a.0 b.2) ∙ ap (λ (z : Version). is_group q (inner q E z) k) (sym sm) ∙ st.names k (ap (λ (z : Version). is_among z.label k) (sym e) ∙ mm);
              apart = λ id w ew wp wl.
                  let y = back q (inner q E) r.id fin vs ws p s.1 id w ew in
                  apart id w wp wl y.0 y.1 y.2;
            })),
            sh,
          )
        where
          some_version : (a b : Version) → Some a ≡ Some b → a ≡ b
          some_version a b h = cc

          apart : (id : ℕ) (w : Version) → w.parent ≡ Some m → w.label ≡ v'.label → (y : Version) → version_at vs id ≡ Some y → Promoted r.id y w → ⊥
          apart id w wp wl y ey (up n' yp ew) = let z : None ≡ Some m = ap (λ (z : Version). z.parent) (sym ew) ∙ wp in cc
          apart id w wp wl y ey (idle_one n' yp ew) = st.apart id y ey (ap (λ (z : Version). z.parent) (sym ew) ∙ wp) (ap (λ (z : Version). z.label) (sym ew) ∙ wl ∙ ap (λ (z : Version). z.label) e)

  -- what is suppressed for those that stay only grows
  pub pop_grows : (c : List ℕ) (vs ws : List Version) → Pruned (promoted r.id) vs ws → Shape q (inner q E) fin vs → root_in vs ≡ Some r → (id : ℕ) (w : Version) → version_at ws id ≡ Some w → (i : ℕ) → suppressed_by q (inner q E) c vs id i ≡ true → suppressed_by q (inner q E) (with_numbers c (used_by_all q (inner q E r))) ws id i ≡ true
  pop_grows c vs ws none s root id w e i h = absurd (cc)
  pop_grows c vs0 ws (goes {v = v} {vs = vs} p) s root id w e i h = one v.parent refl s.0.stands (λ rt x. pop_grows c vs ws p s.1 rt id w e i x)
    where
      empty : (ws : List Version) → Pruned (promoted r.id) [] ws → version_at ws id ≡ Some w → ⊥
      empty ws none e = cc

      one : (o : Option ℕ) → v.parent ≡ o → Stands q (inner q E) fin vs v o → (root_in vs ≡ Some r → suppressed_by q (inner q E) c vs id i ≡ true → suppressed_by q (inner q E) (with_numbers c (used_by_all q (inner q E r))) ws id i ≡ true) → suppressed_by q (inner q E) (with_numbers c (used_by_all q (inner q E r))) ws id i ≡ true
      one None is st ih = absurd (empty ws (subst (λ (z : List Version). Pruned (promoted r.id) z ws) st.0 p) e)
      one (Some m) is st ih =
          let x = back q (inner q E) r.id fin vs ws p s.1 id w e in
          let l = s.0.newest id x.0 x.1 in
          ih (root_tail v vs r m is root) (sym (supp_later q (inner q E) c v vs id i (λ y. absurd (omega arith))) ∙ h)
  pop_grows c vs0 ws0 (stays {v = v} {v' = v'} {vs = vs} {ws = ws} kv there p) s root id w e i h = ⊎_elim
      (λ (y : (v'.id ≡ id) × (v' ≡ w)).
      supp_head q (inner q E) (with_numbers c (used_by_all q (inner q E r))) v' ws id i y.0 ∙ one v.parent refl s.0.stands (promoted_is r.id v v' kv) (λ m u rt em x. pop_grows c vs ws p s.1 rt m u em i x) (sym (supp_head q (inner q E) c v vs id i (sym vid ∙ y.0)) ∙ h))
      (λ (y : (v'.id ≢ id) × (version_at ws id ≡ Some w)).
      supp_later q (inner q E) (with_numbers c (used_by_all q (inner q E r))) v' ws id i y.0 ∙ pop_grows c vs ws p s.1 (tail v.parent refl s.0.stands) id w y.1 i (sym (supp_later q (inner q E) c v vs id i (λ z. y.0 (vid ∙ z))) ∙ h))
      (at_cases v' ws id w e)
    where
      vid : v'.id ≡ v.id
      vid = rises_id r.id v v' (promoted_is r.id v v' kv)

      tail : (o : Option ℕ) → v.parent ≡ o → Stands q (inner q E) fin vs v o → root_in vs ≡ Some r
      tail None is st = absurd (rises_not r.id v v' (promoted_is r.id v v' kv) (ap (λ (z : Version). z.id) (root_head v vs r is root)))
      tail (Some m) is st = root_tail v vs r m is root

      some_same : (a b : ℕ) → Some a ≡ Some b → a ≡ b
      some_same a b h = cc

      some_version : (a b : Version) → Some a ≡ Some b → a ≡ b
      some_version a b h = cc

      one : (o : Option ℕ) → v.parent ≡ o → Stands q (inner q E) fin vs v o → Promoted r.id v v'
          → ((m : ℕ) (u : Version) → root_in vs ≡ Some r → version_at ws m ≡ Some u → suppressed_by q (inner q E) c vs m i ≡ true → suppressed_by q (inner q E) (with_numbers c (used_by_all q (inner q E r))) ws m i ≡ true)
          → suppressed_below q (inner q E) c (suppressed_by q (inner q E) c vs) (version_at vs) v.parent v.label i ≡ true
          → suppressed_below q (inner q E) (with_numbers c (used_by_all q (inner q E r))) (suppressed_by q (inner q E) (with_numbers c (used_by_all q (inner q E r))) ws) (version_at ws) v'.parent v'.label i ≡ true
      one None is st rs ih hb = absurd (rises_not r.id v v' rs (ap (λ (z : Version). z.id) (root_head v vs r is root)))
      one (Some m) is st (up n vp ev) ih hb =
          let rt = root_tail v vs r m is root in
          let mr : m ≡ r.id = some_same m r.id (sym is ∙ vp) in
          let cst : Child q (inner q E) vs v r.id = subst (λ (z : ℕ). Child q (inner q E) vs v z) mr st in
          let ri = root_is q (inner q E) fin vs s.1 r rt in
          let smr : cst.parent ≡ r = some_version cst.parent r (sym cst.is ∙ ri.0) in
          let nm : Names q (inner q E) r v.label = subst (λ (z : Version). Names q (inner q E) z v.label) smr cst.names in
          let hb' : (suppressed_by q (inner q E) c vs r.id i || withheld_by q (inner q E) (version_at vs r.id) v.label i) ≡ true = subst (λ (o : Option ℕ). suppressed_below q (inner q E) c (suppressed_by q (inner q E) c vs) (version_at vs) o v.label i ≡ true) vp hb in
          subst (λ (o : Option ℕ). suppressed_below q (inner q E) (with_numbers c (used_by_all q (inner q E r))) (suppressed_by q (inner q E) (with_numbers c (used_by_all q (inner q E r))) ws) (version_at ws) o v'.label i ≡ true) (sym (ap (λ (z : Version). z.parent) ev))
          (⊎_elim
          (λ (y : suppressed_by q (inner q E) c vs r.id i ≡ true). mem_left i c (used_by_all q (inner q E r)) (sym (root_supp q (inner q E) c vs r.id r ri.0 ri.1 i) ∙ y))
          (λ (y : withheld_by q (inner q E) (version_at vs r.id) v.label i ≡ true).
          let y' : is_withheld q (inner q E r) v.label i ≡ true = subst (λ (o : Option Version). withheld_by q (inner q E) o v.label i ≡ true) ri.0 y in
          ⊎_elim
          (λ (z : is_among (used_by_all q (inner q E r)) i ≡ true). mem_right i c (used_by_all q (inner q E r)) z)
          (λ (z : is_named q (inner q E r) v.label i ≡ true). let a = named_is q (inner q E r) v.label i z in absurd (idle a.0 (nm a.0 a.1)))
          (or_cases (is_among (used_by_all q (inner q E r)) i) (is_named q (inner q E r) v.label i) y'))
          (or_cases (suppressed_by q (inner q E) c vs r.id i) (withheld_by q (inner q E) (version_at vs r.id) v.label i) hb'))
      one (Some m) is st (idle_one n vp ev) ih hb =
          let rt = root_tail v vs r m is root in
          let v'p : v'.parent ≡ Some m = ap (λ (z : Version). z.parent) ev ∙ is in
          let th : is_some (version_at ws m) ≡ true = subst (λ (o : Option ℕ). parent_there kin ws o ≡ true) v'p there in
          let a = at_some ws m th in
          let b = back q (inner q E) r.id fin vs ws p s.1 m a.0 a.1 in
          let hb' : (suppressed_by q (inner q E) c vs m i || withheld_by q (inner q E) (version_at vs m) v.label i) ≡ true = subst (λ (o : Option ℕ). suppressed_below q (inner q E) c (suppressed_by q (inner q E) c vs) (version_at vs) o v.label i ≡ true) is hb in
          subst (λ (o : Option ℕ). suppressed_below q (inner q E) (with_numbers c (used_by_all q (inner q E r))) (suppressed_by q (inner q E) (with_numbers c (used_by_all q (inner q E r))) ws) (version_at ws) o v'.label i ≡ true) (sym v'p)
          (⊎_elim
          (λ (y : suppressed_by q (inner q E) c vs m i ≡ true). or_left (suppressed_by q (inner q E) (with_numbers c (used_by_all q (inner q E r))) ws m i) (withheld_by q (inner q E) (version_at ws m) v'.label i) (ih m a.0 rt a.1 y))
          (λ (y : withheld_by q (inner q E) (version_at vs m) v.label i ≡ true).
          let y' : is_withheld q (inner q E b.0) v.label i ≡ true = subst (λ (o : Option Version). withheld_by q (inner q E) o v.label i ≡ true) b.1 y in
          or_right (suppressed_by q (inner q E) (with_numbers c (used_by_all q (inner q E r))) ws m i) (withheld_by q (inner q E) (version_at ws m) v'.label i)
          (subst (λ (o : Option Version). withheld_by q (inner q E) o v'.label i ≡ true) (sym a.1)
          (subst (λ (l : List ℕ). is_withheld q (inner q E a.0) l i ≡ true) (ap (λ (z : Version). z.label) (sym ev))
          (subst (λ (z : State). is_withheld q z v.label i ≡ true) (sym (rises_inner q E r.id b.0 a.0 b.2)) y'))))
          (or_cases (suppressed_by q (inner q E) c vs m i) (withheld_by q (inner q E) (version_at vs m) v.label i) hb'))

-- what the root that is done gives: its matches, and the numbers that they used
module _ (q : Plan) (k : Facts q) (s : Machine) (r : Version) (h : Kept q s) (at : version_at s.versions r.id ≡ Some r) (root : r.parent ≡ None) (win : r.window ≡ s.finished + 1) (done : r.done ≡ true) where
  -- what the engine has consumed before the root's window
  before : Progress
  before = seq q s.events s.finished

  l : Local q s.events s.ended s.tickets (is_suppressed q s r.id) r
  l = h.sane.each r.id r at

  sup : (i : ℕ) → is_suppressed q s r.id i ≡ is_among before.consumed i
  unfolding before
  sup i = root_supp q (inner q s.events) s.consumed s.versions r.id r at root i
      ∙ ap (λ (ns : List ℕ). is_among ns i) h.sane.consumed ∙ among_sorted (seq q s.events s.finished).consumed i

  agree : (i : ℕ) → first q s.events r.window ≤ i → i < first q s.events r.window + r.position → is_among r.skipped i ≡ is_among before.consumed i
  agree i lo hi = same_bool (is_among r.skipped i) (is_among before.consumed i) (λ m. sym (sup i) ∙ l.skips i m) (λ m. one (is_among r.skipped i) refl m)
    where
      one : (b : Bool) → is_among r.skipped i ≡ b → is_among before.consumed i ≡ true → b ≡ true
      one true is m = refl
      one false is m = absurd (h.clear r.id r at root i (hit_read q s r i (sup i ∙ m) (lo, hi, is)))

  -- the reading of the root is the engine's
  read : reading q s.events r.skipped (first q s.events r.window) r.position ≡ reading q s.events before.consumed (first q s.events (suc s.finished)) (size q s.events (suc s.finished))
  read =
      let next : r.window ≡ suc s.finished = omega (arith, win) in
      k.reading_agrees s.events r.skipped before.consumed (first q s.events r.window) r.position agree
      ∙ ap (reading q s.events before.consumed (first q s.events r.window)) (l.done done).1
      ∙ ap (λ (w : ℕ). reading q s.events before.consumed (first q s.events w) (size q s.events w)) next

  runs : matched_runs (inner q s.events r) ≡ matched_runs (reading q s.events before.consumed (first q s.events (suc s.finished)) (size q s.events (suc s.finished)))
  runs = ap (λ (b : Bool). matched_runs (cond b (after_closing (reading q s.events r.skipped (first q s.events r.window) r.position)) (reading q s.events r.skipped (first q s.events r.window) r.position))) done
      ∙ ap matched_runs read

  -- the engine's next window, over the same runs
  next_is : seq q s.events (s.finished + 1) ≡ after_window q (suc s.finished) (seq q s.events s.finished) (matched_runs (inner q s.events r))
  unfolding before
  next_is =
      let more : s.finished + 1 ≡ suc s.finished = omega arith in
      let closed_one = (l.done done).0 in
      let there = k.closed_within s.events s.ended h.sane.good in
      ap (seq q s.events) more ∙ k.seq_next s.events s.finished h.sane.good (omega arith)
      ∙ ap (after_window q (suc s.finished) (seq q s.events s.finished)) (sym runs)

  pub finish_matches : s.emitted ++ new_matches q s r ≡ (seq q s.events (s.finished + 1)).matches
  finish_matches =
      let next : r.window ≡ suc s.finished = omega (arith, win) in
      ap (λ (w : ℕ). s.emitted ++ map (match_of q w) (enumerate_from (length s.emitted + 1) (matched_runs (inner q s.events r)))) next
      ∙ ap (λ (ms : List Match). ms ++ map (match_of q (suc s.finished)) (enumerate_from (length ms + 1) (matched_runs (inner q s.events r)))) h.sane.emitted
      ∙ ap (λ (p : Progress). p.matches) (sym next_is)

  pub finish_consumed : with_numbers s.consumed (used_by_all q (inner q s.events r)) ≡ with_numbers [] (seq q s.events (s.finished + 1)).consumed
  finish_consumed =
      ap (λ (ns : List ℕ). with_numbers ns (used_by_all q (inner q s.events r))) h.sane.consumed
      ∙ sym (numbers_append [] (seq q s.events s.finished).consumed (used_by_all q (inner q s.events r)))
      ∙ ap (λ (p : Progress). with_numbers [] p.consumed) (sym next_is)

pub done_idle : (q : Plan) (E : List Event) (r : Version) → r.done ≡ true → (n : ℕ) → is_group q (inner q E r) n ≡ true → ⊥
done_idle q E r d n h =
    let a : is_group q (after_closing (reading q E r.skipped (first q E r.window) r.position)) n ≡ true = subst (λ (b : Bool). is_group q (cond b (after_closing (reading q E r.skipped (first q E r.window) r.position)) (reading q E r.skipped (first q E r.window) r.position)) n ≡ true) d h in
    absurd (cc)

pub pop_sane : (q : Plan) → Facts q → (s : Machine) (r : Version) → root_in s.versions ≡ Some r → r.done ≡ true → Kept q s → Sane q (popped q s r)
pop_sane q k s r rt d h = record {
  shape = pop_shape q s.events s.finished r idle s.versions (prune kin (promoted r.id) s.versions) (prune_is (promoted r.id) s.versions) h.sane.shape rt;
  each = λ id w e. let b = bk id w e in loc id w e b.0 b.1 b.2;
  ids = λ id w e. h.sane.ids id (bk id w e).0 (bk id w e).1;
  newest_first = h.sane.newest_first;
  numbers = h.sane.numbers;
  unborn = h.sane.unborn;
  emitted = finish_matches q k s r h ri.0 ri.1 rl.1 d;
  consumed = finish_consumed q k s r h ri.0 ri.1 rl.1 d;
  good = h.sane.good;
  closed = let a = ((h.sane.each r.id r ri.0).done d).0 in let b = rl.1 in omega arith;
}
  where
    idle : (n : ℕ) → is_group q (inner q s.events r) n ≡ true → ⊥
    idle = done_idle q s.events r d

    ri : (version_at s.versions r.id ≡ Some r) × (r.parent ≡ None)
    ri = root_is q (inner q s.events) s.finished s.versions h.sane.shape r rt

    rl : (root_in s.versions ≡ Some r) × (r.window ≡ s.finished + 1) × (r.label ≡ [])
    rl = root_last q (inner q s.events) s.finished s.versions h.sane.shape r.id r ri.0 ri.1

    ws : List Version
    ws = prune kin (promoted r.id) s.versions

    bk : (id : ℕ) (w : Version) → version_at (prune kin (promoted r.id) s.versions) id ≡ Some w → (v : Version) × (version_at s.versions id ≡ Some v) × Promoted r.id v w
    bk id w e = back q (inner q s.events) r.id s.finished s.versions (prune kin (promoted r.id) s.versions) (prune_is (promoted r.id) s.versions) h.sane.shape id w e

    S : ℕ → ℕ → Bool
    S = is_suppressed q s

    S' : ℕ → ℕ → Bool
    S' = suppressed_by q (inner q s.events) (with_numbers s.consumed (used_by_all q (inner q s.events r))) (prune kin (promoted r.id) s.versions)

    grown : (id : ℕ) (w v : Version) → version_at (prune kin (promoted r.id) s.versions) id ≡ Some w → version_at s.versions id ≡ Some v → Local q s.events s.ended s.tickets (S' id) v
    grown id w v e ev = local_grows q s.events s.ended s.tickets s.tickets (S id) (S' id) v
        (λ i x. pop_grows q s.events s.finished r idle s.consumed s.versions (prune kin (promoted r.id) s.versions) (prune_is (promoted r.id) s.versions) h.sane.shape rt id w e i x) (λ n t x. x) (h.sane.each id v ev)

    moved : (T : ℕ → Bool) (u : Version) (o : Option ℕ) → Local q s.events s.ended s.tickets T u → Local q s.events s.ended s.tickets T (record u { parent = o })
    moved T u o x = record { there = x.there; reads = x.reads; rising = x.rising; skips = x.skips; read_them = x.read_them; done = x.done; lent = λ m t e o. let y = x.lent m t e o in record { begins = y.begins; fits = y.fits; closes = y.closes; undone = y.undone; snapshot = y.snapshot; reads = y.reads; shuts = y.shuts }; only = x.only }

    loc : (id : ℕ) (w : Version) → version_at (prune kin (promoted r.id) s.versions) id ≡ Some w → (v : Version) → version_at s.versions id ≡ Some v → Promoted r.id v w → Local q s.events s.ended s.tickets (S' id) w
    loc id w e v ev (up n p x) = subst (λ (z : Version). Local q s.events s.ended s.tickets (S' id) z) (sym x) (moved (S' id) v None (grown id w v e ev))
    loc id w e v ev (idle_one n p x) = subst (λ (z : Version). Local q s.events s.ended s.tickets (S' id) z) (sym x) (grown id w v e ev)

-- a hit is an event of the window
hit_within : (q : Plan) (s : Machine) (v : Version) (id i : ℕ) → version_at s.versions id ≡ Some v → Sane q s → is_hit q s v i ≡ true → (first q s.events v.window ≤ i) × (i < first q s.events v.window + size q s.events v.window)
hit_within q s v id i e h x =
    let o = hit_cases q s v i x in
    let l = h.each id v e in
    ⊎_elim
    (λ (y : (first q s.events v.window ≤ i) × (i < first q s.events v.window + v.position) × (is_among v.skipped i ≡ false)). (y.0, let a = y.1 in let b = l.reads in omega arith))
    (λ (y : is_bare s.tickets v.id i ≡ true).
    let b = at_bare s.tickets h.newest_first v.id i y in
    let t = l.lent b.0 b.1 b.2 b.3 in
    let a1 = t.begins in let a2 = t.fits in let a3 = b.4 in let a4 = b.5 in
    (omega arith, omega arith))
    o.1

pub settle_keeps : (q : Plan) (s : Machine) (o : Option Version) → root_in s.versions ≡ o → Sane q s → Kept q (settled q s o)
settle_keeps q s None e h =
    let empty = rootless q (inner q s.events) s.finished s.versions h.shape e in
    record { sane = h; clear = λ id v at root i x. let z : version_at [] id ≡ Some v = subst (λ (z : List Version). version_at z id ≡ Some v) empty at in absurd (cc) }
settle_keeps q s (Some c) e h = one (is_some (conflict q s c)) refl
  where
    ri : (version_at s.versions c.id ≡ Some c) × (c.parent ≡ None)
    ri = root_is q (inner q s.events) s.finished s.versions h.shape c e

    one : (b : Bool) → is_some (conflict q s c) ≡ b → Kept q (cond b (rolled s (Some c)) s)
    one true is = record {
      sane = roll_sane q s c.id c ri.0 h;
      clear = λ id v at root i x. ⊎_elim
          (λ (y : (s.next_id ≡ id) × (fresh s.next_id c.parent c.window c.label ≡ v)).
          fresh_clear q (rolled s (Some c)) c.parent c.window c.label s.next_id i (h.unborn s.next_id (omega arith)) (subst (λ (z : Version). is_hit q (rolled s (Some c)) z i ≡ true) (sym y.1) x))
          (λ (y : (s.next_id ≢ id) × (version_at (prune kin (but c.id) s.versions) id ≡ Some v)).
          let z : version_at [] id ≡ Some v = subst (λ (z : List Version). version_at z id ≡ Some v) (cut_root q s h c.id c ri.0 ri.1) y.1 in absurd (cc))
          (at_cases (fresh s.next_id c.parent c.window c.label) (prune kin (but c.id) s.versions) id v at);
    }
    one false is = record {
      sane = h;
      clear = λ id v at root i x.
          let a = (root_last q (inner q s.events) s.finished s.versions h.shape id v at root).0 in
          let sm : v ≡ c = cc in
          let y : is_hit q s c i ≡ true = subst (λ (z : Version). is_hit q s z i ≡ true) sm x in
          let w = hit_within q s c c.id i ri.0 h y in
          let z = least_none (is_hit q s c) (first q s.events c.window) (size q s.events c.window) i is w.0 w.1 in
          absurd (cc);
    }

pub finish_keeps : (q : Plan) → Facts q → (s : Machine) (r : Version) → root_in s.versions ≡ Some r → r.done ≡ true → Kept q s → Kept q (finished_one q s (Some r))
finish_keeps q k s r rt d h = settle_keeps q (popped q s r) (root_in (popped q s r).versions) refl (pop_sane q k s r rt d h)
