-- A root is planted, or can't be.
use Rattle.std.proofs.Common.{◌≡◌, ℕ, ◌+◌, ◌<◌, Bool, true, false, List, [], Option, Some, None, is_some, nat_lt, inl, inr, refl, sym, ap, subst, arith}
use Rattle.std.proofs.lemmas.Bool.Decides.{nat_tests}
use Rattle.std.proofs.lemmas.Option.{same_Some, none-some}
use Rattle.sp_plan.specs.declared.plan.Plan.{Plan}
use Rattle.sp_plan.specs.WindowNumbers.{count}
use Rattle.sp_group.specs.declared.refusal.Refusal.{Refusal}
use Rattle.sp_group.specs.declared.refusal.Refusal.TheVariants as why
use Rattle.sp_group.specs.declared.step.Step.TheVariants as s
use Rattle.sp_group.specs.Effects.{fresh}
use Rattle.sp_group.specs.Machine as machine
use Rattle.sp_group.specs.Machine.{Machine, Version}
use Rattle.sp_group.specs.Refusing.{id_of, refuse_for, refuse_if, root_refusal}
use Rattle.sp_core.specs.Running.{IsDone, Running, refused}
use Rattle.sp_spread.specs.Calm.{AreCalm, IsRooted, NoneDone, Settled}
use Rattle.sp_splitter.specs.Knowing.{Known}
use Rattle.sp_splitter.specs.Planting.{Plants}

-- a root is made
pub settled_planted : (old new : Running) (label : List ℕ) → label ≡ [] → Known old → IsDone (s.Spawn None label) old new → AreCalm old.plan old.machine → Settled new.plan new.machine
settled_planted old new label empty known done calm = subst (λ (c : Running). Settled c.plan c.machine) (sym done.1) (record {
  calm = known.lawful.calm.by_spawn None label done.0 calm;
  undone = λ v is. ap (λ (w : Version). w.done) (sym (same_Some root v is));
  rooted = inl (root, refl);
})
  where
    root : Version
    root = fresh old.machine.next_id None (old.machine.finished + 1) []

pub plants_planted : (old new : Running) (label : List ℕ) → label ≡ [] → IsDone (s.Spawn None label) old new → Plants old new
plants_planted old new label empty done = inl (subst (λ (l : List ℕ). IsDone (s.Spawn None l) old new) empty done)

-- none can be made: one is live, or its window has not begun
rooted_refused : (q : Plan) (m : Machine) (r : Refusal) → root_refusal q m [] ≡ Some r → IsRooted q m
rooted_refused q m r is = one (machine.root_in m.versions) refl is
  where
    two : (b : Bool) → nat_lt (count q m.events) (m.finished + 1) ≡ b → refuse_if b (why.NoWindow (m.finished + 1)) None ≡ Some r → count q m.events < m.finished + 1
    two true low refusal = grind (arith, nat_tests)
    two false high refusal = absurd (none-some r refusal)

    one : (o : Option Version) → machine.root_in m.versions ≡ o
        → refuse_for (id_of o) why.LabelTaken (refuse_if (nat_lt (count q m.events) (m.finished + 1)) (why.NoWindow (m.finished + 1)) None) ≡ Some r → IsRooted q m
    one (Some v) at refusal = inl (v, at)
    one None at refusal = inr (two (nat_lt (count q m.events) (m.finished + 1)) refl refusal)

pub settled_unplanted : (old new : Running) (label : List ℕ) (r : Refusal) → label ≡ [] → new ≡ old → refused old (s.Spawn None label) ≡ Some r
    → AreCalm old.plan old.machine → NoneDone old.machine → Settled new.plan new.machine
settled_unplanted old new label r empty same is calm undone = subst (λ (c : Running). Settled c.plan c.machine) (sym same) (record {
  calm = calm;
  undone = undone;
  rooted = rooted_refused old.plan old.machine r (subst (λ (l : List ℕ). root_refusal old.plan old.machine l ≡ Some r) empty is);
})

pub plants_unplanted : (old new : Running) (label : List ℕ) (r : Refusal) → label ≡ [] → new ≡ old → refused old (s.Spawn None label) ≡ Some r → Plants old new
plants_unplanted old new label r empty same is =
    inr (ap is_some (subst (λ (l : List ℕ). refused old (s.Spawn None l) ≡ Some r) empty is), same)
