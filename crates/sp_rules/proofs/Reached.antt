-- What holds of each state that steps lead to: what is emitted, which versions roll, and that the root is in no conflict.
use Rattle.std.proofs.Common.{◌≡◌, ℕ, ◌≤◌, true, cond, not, List, [], ◌∷◌, Option, Some, None, is_some, refl, sym, ap, ◌∙◌, subst, arith}
use Rattle.sp_plan.specs.declared.plan.Plan.{Plan}
use Rattle.sp_plan.specs.Sequential.{seq}
use Rattle.sp_group.specs.declared.refusal.Refusal.TheVariants as r
use Rattle.sp_group.specs.declared.step.Step.{Step}
use Rattle.sp_group.specs.declared.step.Step.TheVariants as s
use Rattle.sp_group.specs.Family.{prune}
use Rattle.sp_group.specs.Machine.{Version, Machine, kin, opening, version_at, root_in, inner, conflict}
use Rattle.sp_group.specs.Refusing.{refuse_if, roll_refusal, refusal}
use Rattle.sp_group.specs.Effects.{fresh, but, popped, rolled, settled}
use Rattle.sp_group.specs.Steps.{steps}
use Rattle.sp_rules.specs.Kept.{Kept}
use Rattle.sp_rules.specs.Schedules.{Fits, IsSequential, RollsWhereInConflict, Reached}
use Rattle.sp_rules.proofs.Facts.{Facts}
use Rattle.sp_rules.proofs.Locals.{root_last, root_is}
use Rattle.sp_rules.proofs.Finish.{finish_matches}
use Rattle.sp_rules.proofs.Steps.{passes_if, not_false, opening_kept, steps_keep}
use Rattle.sp_rules.proofs.Onward.{step_onward}
use Rattle.sp_rules.proofs.Births.{step_born, step_stays}
use Rattle.sp_rules.proofs.Losses.{loses_few}
use Rattle.sp_rules.proofs.GoesOn.{root_clear, goes_on}
use Rattle.sp_rules.proofs.Bound.{steps_few, keeps_bound}

-- what is emitted, in every state that steps lead to
pub is_sequential : (q : Plan) → Facts q → (m : Machine) → Kept q m → IsSequential q m
is_sequential q k m h = record {
  emitted = h.sane.emitted;
  consumed = h.sane.consumed;
  finished = h.sane.closed;
  root_done = λ v root done.
      let is = root_is q (inner q m.events) m.finished m.versions h.sane.shape v root in
      let last = root_last q (inner q m.events) m.finished m.versions h.sane.shape v.id v is.0 is.1 in
      sym (finish_matches q k m v h is.0 is.1 last.1 done);
  all = λ ended finished.
      let closed_all = k.closed_over m.events h.sane.good in
      h.sane.emitted ∙ ap (λ (n : ℕ). (seq q m.events n).matches) (finished ∙ sym closed_all);
}

-- a version that is found as the root has no parent
root_parent : (vs : List Version) (v : Version) → root_in vs ≡ Some v → v.parent ≡ None
root_parent [] v h = absurd (cc)
root_parent (x ∷ vs) v h = one x.parent refl (root_parent vs v)
  where
    one : (o : Option ℕ) → x.parent ≡ o → (root_in vs ≡ Some v → v.parent ≡ None) → v.parent ≡ None
    one None is rest = let same : x ≡ v = grind (arith, is) in ap (λ (z : Version). z.parent) (sym same) ∙ is
    one (Some p) is rest = rest (grind (arith, is))

some_where : (o : Option ℕ) → is_some o ≡ true → (n : ℕ) × (o ≡ Some n)
some_where (Some n) h = (n, refl)
some_where None h = absurd (cc)

-- a roll is refused but where there is a conflict
rolls_where : (q : Plan) (bound : ℕ) (m : Machine) (id : ℕ) → refusal q bound m (s.Roll id) ≡ None → (v : Version) × (i : ℕ) × (version_at m.versions id ≡ Some v) × (conflict q m v ≡ Some i)
rolls_where q bound m id h = one (version_at m.versions id) refl h
  where
    one : (o : Option Version) → version_at m.versions id ≡ o → roll_refusal q m id o ≡ None → (v : Version) × (i : ℕ) × (version_at m.versions id ≡ Some v) × (conflict q m v ≡ Some i)
    one None e h = absurd (cc)
    one (Some v) e h =
        let found = some_where (conflict q m v) (not_false (is_some (conflict q m v)) (passes_if (not (is_some (conflict q m v))) _ _ h).0) in
        (v, found.0, e, found.1)

rolls_there : (q : Plan) (bound : ℕ) (m : Machine) (id : ℕ) → (v : Version) × (i : ℕ) × (version_at m.versions id ≡ Some v) × (conflict q m v ≡ Some i) → refusal q bound m (s.Roll id) ≡ None
rolls_there q bound m id x =
    subst (λ (o : Option Version). roll_refusal q m id o ≡ None) (sym x.2) (one (conflict q m x.0) x.3)
  where
    one : (o : Option ℕ) → o ≡ Some x.1 → refuse_if (not (is_some o)) (r.NoConflict id) None ≡ None
    one None e = absurd (cc)
    one (Some i) e = refl

-- the version that a finish makes the root stays where it is in no conflict, and begins anew where it is in one
module _ (q : Plan) (m : Machine) (u : Version) (root : root_in m.versions ≡ Some u) where
  settles : conflict q m u ≡ None → settled q m (root_in m.versions) ≡ m
  settles none =
      subst (λ (o : Option Version). settled q m o ≡ m) (sym root)
      (ap (λ (o : Option ℕ). cond (is_some o) (rolled m (Some u)) m) none)

  renews : (i : ℕ) → conflict q m u ≡ Some i → (w : Version) × (root_in (settled q m (root_in m.versions)).versions ≡ Some w) × (w.id ≡ m.next_id)
  renews i hit =
      let orphan = root_parent m.versions u root in
      subst (λ (o : Option Version). (w : Version) × (root_in (settled q m o).versions ≡ Some w) × (w.id ≡ m.next_id)) (sym root)
      (subst (λ (o : Option ℕ). (w : Version) × (root_in (cond (is_some o) (rolled m (Some u)) m).versions ≡ Some w) × (w.id ≡ m.next_id)) (sym hit)
      (fresh m.next_id u.parent u.window u.label, front u.parent orphan, refl))
    where
      front : (p : Option ℕ) → p ≡ None → root_in (fresh m.next_id p u.window u.label ∷ prune kin (but u.id) m.versions) ≡ Some (fresh m.next_id p u.window u.label)
      front None e = refl
      front (Some p) e = absurd (cc)

-- which versions roll, in every state that steps lead to
pub rolls_where_in_conflict : (q : Plan) (bound : ℕ) (m : Machine) → Kept q m → RollsWhereInConflict q bound m
rolls_where_in_conflict q bound m h = record {
  rolls = λ id. (rolls_where q bound m id, rolls_there q bound m id);
  promotes = λ v u root next. (settles q (popped q m v) u next, renews q (popped q m v) u next);
  root_clear = root_clear q m h;
}

-- steps lead from the opening to such a state
pub reached : (q : Plan) → Facts q → (bound : ℕ) (xs : List Step) → 1 ≤ bound → Fits q bound opening xs → Reached q bound (steps q bound opening xs)
reached q k bound xs low fits =
    let m : Machine = steps q bound opening xs in
    let kept : Kept q m = steps_keep q k bound xs opening fits (opening_kept q k) in
    record {
      kept = kept;
      sequential = is_sequential q k m kept;
      onward = λ x fit. step_onward q k bound m x fit kept;
      born = λ x. step_born q k bound m x kept;
      stays = λ x. step_stays q bound m x kept;
      loses = loses_few q k bound m kept;
      rolling = rolls_where_in_conflict q bound m kept;
      goes_on = goes_on q bound m kept;
      bounded = keeps_bound q bound m kept (steps_few q k bound xs opening low fits (opening_kept q k) (omega arith));
    }
