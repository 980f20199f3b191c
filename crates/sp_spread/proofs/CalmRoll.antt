-- A roll ends the conflict of its version, and makes none.
use Rattle.std.proofs.Common.{◌≡◌, ◌≢◌, ℕ, Bool, true, ◌||◌, List, Option, Some, None, ⊎_elim, refl, sym, ap, ◌∙◌, subst, arith}
use Rattle.std.specs.Prelude.{⊤}
use Rattle.sp_plan.specs.declared.plan.Plan.{Plan}
use Rattle.sp_plan.specs.Runs.{State}
use Rattle.sp_group.specs.declared.step.Step.TheVariants as s
use Rattle.sp_group.specs.Family.{parent_there, prune}
use Rattle.sp_group.specs.Machine.{Version, Machine, kin, version_at, is_bare, is_hit, conflict, inner, withheld_by, suppressed_below, suppressed_by, is_suppressed}
use Rattle.sp_group.specs.Refusing.{refusal, roll_refusal}
use Rattle.sp_group.specs.Effects.{fresh, but, rolled, effect}
use Rattle.sp_rules.specs.Kept.{Shape, Sane}
use Rattle.sp_rules.proofs.Tree.{at_cases, at_id, at_some, Pruned, none, goes, stays, prune_is, from_id, supp_head, supp_later}
use Rattle.sp_rules.proofs.Home.{HasRead, hit_cases, hit_read, hit_bare}
use Rattle.sp_rules.proofs.Spawning.{older_hit}
use Rattle.sp_rules.proofs.Roll.{but_same, cut_back}
use Rattle.sp_spread.specs.Laws.{LosesConflict}
use Rattle.sp_spread.proofs.Conflicts.{stays_clear, fresh_is_clear}

any : Version → Type 0
any v = ⊤

-- what is there after a version was taken away was there before, the same
was_there : (q : Plan) (f : Version → State) (a fin : ℕ) (vs ws : List Version) → Pruned (but a) vs ws → Shape q f fin vs → (id : ℕ) (w : Version) → version_at ws id ≡ Some w → version_at vs id ≡ Some w
unfolding any
was_there q f a fin vs ws p s id w e =
    let x = from_id q f (but a) any fin (λ v v' _ k. ap (λ (z : Version). z.id) (but_same a v v' k).0) vs ws p s (λ i v e. tt) id w e in
    x.1 ∙ ap Some (sym (but_same a x.0 w x.2).0)

-- what is suppressed for a version that stays was so before
cut_shrinks : (q : Plan) (f : Version → State) (c : List ℕ) (a fin : ℕ) (vs ws : List Version) → Pruned (but a) vs ws → Shape q f fin vs → (id : ℕ) (w : Version) → version_at ws id ≡ Some w
    → (i : ℕ) → suppressed_by q f c ws id i ≡ suppressed_by q f c vs id i
cut_shrinks q f c a fin vs ws none s id w e i = refl
cut_shrinks q f c a fin vs0 ws (goes {v = v} {vs = vs} p) s id w e i =
    let l = s.0.newest id w (was_there q f a fin vs ws p s.1 id w e) in
    cut_shrinks q f c a fin vs ws p s.1 id w e i ∙ sym (supp_later q f c v vs id i (λ same. absurd (omega (arith, l, same))))
cut_shrinks q f c a fin vs0 ws0 (stays {v = v} {v' = v'} {vs = vs} {ws = ws} kv there p) s id w e i = ⊎_elim
    (λ (y : (v'.id ≡ id) × (v' ≡ w)).
    supp_head q f c v' ws id i y.0 ∙ below (λ m u is'. cut_shrinks q f c a fin vs ws p s.1 m u is' i) v'.parent refl ∙ ap (λ (z : Version). suppressed_below q f c (suppressed_by q f c vs) (version_at vs) z.parent z.label i) same
    ∙ sym (supp_head q f c v vs id i (ap (λ (z : Version). z.id) (sym same) ∙ y.0)))
    (λ (y : (v'.id ≢ id) × (version_at ws id ≡ Some w)).
    supp_later q f c v' ws id i y.0 ∙ cut_shrinks q f c a fin vs ws p s.1 id w y.1 i ∙ sym (supp_later q f c v vs id i (λ z. y.0 (ap (λ (z : Version). z.id) same ∙ z))))
    (at_cases v' ws id w e)
  where
    same : v' ≡ v
    same = (but_same a v v' kv).0

    below : ((m : ℕ) (u : Version) → version_at ws m ≡ Some u → suppressed_by q f c ws m i ≡ suppressed_by q f c vs m i) → (o : Option ℕ) → v'.parent ≡ o
        → suppressed_below q f c (suppressed_by q f c ws) (version_at ws) v'.parent v'.label i ≡ suppressed_below q f c (suppressed_by q f c vs) (version_at vs) v'.parent v'.label i
    below ih None is = subst (λ (o : Option ℕ). suppressed_below q f c (suppressed_by q f c ws) (version_at ws) o v'.label i ≡ suppressed_below q f c (suppressed_by q f c vs) (version_at vs) o v'.label i) (sym is) refl
    below ih (Some m) is =
        let u = at_some ws m (subst (λ (o : Option ℕ). parent_there kin ws o ≡ true) is there) in
        let up = was_there q f a fin vs ws p s.1 m u.0 u.1 in
        subst (λ (o : Option ℕ). suppressed_below q f c (suppressed_by q f c ws) (version_at ws) o v'.label i ≡ suppressed_below q f c (suppressed_by q f c vs) (version_at vs) o v'.label i) (sym is)
        (ap (λ (b : Bool). b || withheld_by q f (version_at ws m) v'.label i) (ih m u.0 u.1) ∙ ap (λ (o : Option Version). suppressed_by q f c vs m i || withheld_by q f o v'.label i) (u.1 ∙ sym up))

-- taking a version away, with all below it
abbrev pub cut : Machine → ℕ → Machine
cut m id = record m { versions = prune kin (but id) m.versions }

pub cut_hit : (q : Plan) (m : Machine) (a : ℕ) → Sane q m → (id : ℕ) (w : Version) → version_at (prune kin (but a) m.versions) id ≡ Some w → (i : ℕ) → is_hit q (cut m a) w i ≡ true → is_hit q m w i ≡ true
cut_hit q m a h id w e i x =
    let o = hit_cases q (cut m a) w i x in
    let wid = at_id (prune kin (but a) m.versions) id w e in
    let e' : version_at (prune kin (but a) m.versions) w.id ≡ Some w = subst (λ (z : ℕ). version_at (prune kin (but a) m.versions) z ≡ Some w) (sym wid) e in
    let sup : is_suppressed q m w.id i ≡ true = sym (cut_shrinks q (inner q m.events) m.consumed a m.finished m.versions (prune kin (but a) m.versions) (prune_is (but a) m.versions) h.shape w.id w e' i) ∙ o.0 in
    ⊎_elim (λ (y : HasRead q m.events w i). hit_read q m w i sup y)
    (λ (y : is_bare m.tickets w.id i ≡ true). hit_bare q m w i sup y) o.1

rolled_loses : (q : Plan) (m : Machine) (id : ℕ) (r : Version) → version_at m.versions id ≡ Some r → Sane q m → LosesConflict q m (rolled m (Some r)) id
rolled_loses q m id r at h other v e conflicted = ⊎_elim
    (λ (y : (m.next_id ≡ other) × (fresh m.next_id r.parent r.window r.label ≡ v)).
    absurd (conflicted (subst (λ (z : Version). conflict q (rolled m (Some r)) z ≡ None) y.1 (fresh_is_clear q (rolled m (Some r)) r.parent r.window r.label m.next_id (h.unborn m.next_id (omega arith))))))
    (λ (y : (m.next_id ≢ other) × (version_at (prune kin (but r.id) m.versions) other ≡ Some v)).
    let b = cut_back q m r.id h other v y.1 in
    let vid = at_id m.versions other v b.0 in
    let rid = at_id m.versions id r at in (
      λ same. b.1 (vid ∙ same ∙ sym rid),
      b.0,
      λ clear. conflicted (stays_clear q m (rolled m (Some r)) v v refl refl
          (λ i x. cut_hit q m r.id h other v y.1 i (sym (older_hit q (cut m r.id) (fresh m.next_id r.parent r.window r.label) v i (λ z. y.0 (z ∙ vid))) ∙ x)) clear),
    ))
    (at_cases (fresh m.next_id r.parent r.window r.label) (prune kin (but r.id) m.versions) other v e)

pub roll_loses : (q : Plan) (bound : ℕ) (m : Machine) → Sane q m → (id : ℕ) → refusal q bound m (s.Roll id) ≡ None → LosesConflict q m (effect q m (s.Roll id)) id
roll_loses q bound m h id = one (version_at m.versions id) refl
  where
    one : (o : Option Version) → version_at m.versions id ≡ o → roll_refusal q m id o ≡ None → LosesConflict q m (rolled m o) id
    one None at accepted = absurd (cc)
    one (Some r) at accepted = rolled_loses q m id r at h
