-- The root of a core that stands alone, and its finish.
use Rattle.std.proofs.Common.{◌≡◌, ℕ, Bool, true, false, cond, List, [], ◌++◌, Some, None, Option, is_some, refl, sym, ◌∙◌, ap, subst, arith}
use Rattle.std.proofs.lemmas.Option.{same_Some, none-some}
use Rattle.sp_plan.specs.declared.found.Match.{Match}
use Rattle.sp_plan.specs.declared.plan.Plan.{Plan}
use Rattle.sp_group.specs.declared.step.Step.TheVariants as s
use Rattle.sp_group.specs.Effects.{effect, finished_one, new_matches, popped, rolled, settled}
use Rattle.sp_group.specs.Machine as machine
use Rattle.sp_group.specs.Machine.{Machine}
use Rattle.sp_group.specs.Refusing.{id_of}
use Rattle.sp_group.specs.Steps as steps
use Rattle.sp_group.specs.Steps.{finish_answer}
use Rattle.sp_version.specs.declared.version.Version.{Version}
use Rattle.sp_tree.specs.Grown.{Grown, root_in}
use Rattle.sp_core.specs.declared.emitted.Emitted.{Emitted}
use Rattle.sp_core.specs.Finishing.{IsEmitted}
use Rattle.sp_core.specs.Running.{Running, IsDone}
use Rattle.sp_core.specs.Showing.{IsTreeOf}
use Rattle.sp_core.proofs.Roots.{root_id}
use Rattle.sp_split.specs.declared.turning.Turn.TheVariants as t
use Rattle.sp_split.specs.Stages.{Turned}
use Rattle.sp_split.proofs.Lone.{With}
use Rattle.sp_split.proofs.Steps.{SameInput, worked_step}

-- the tree's root is the machine's
pub tree_root : (c : Running) (tree : Grown Version) (root : ℕ) → IsTreeOf c tree → root_in tree.entries ≡ Some root
    → (v : machine.Version) × (machine.root_in c.machine.versions ≡ Some v) × (v.id ≡ root)
tree_root c tree root is at = one (machine.root_in c.machine.versions) refl (ap (λ (l : List machine.Version). id_of (machine.root_in l)) (sym is.versions) ∙ sym (root_id tree.entries) ∙ at)
  where
    one : (o : Option machine.Version) → machine.root_in c.machine.versions ≡ o → id_of o ≡ Some root → (v : machine.Version) × (machine.root_in c.machine.versions ≡ Some v) × (v.id ≡ root)
    one None there id = absurd (none-some root id)
    one (Some v) there id = (v, there, same_Some v.id root id)

module _ (q : Plan) (m : Machine) where
  settled_with : (o : Option machine.Version) → With m (settled q m o) m.tickets
  settled_with None = record { input = record { events = refl; ended = refl; finished = omega arith }; emitted = refl; out = refl }
  settled_with (Some v) = one (is_some (machine.conflict q m v))
    where
      one : (b : Bool) → With m (cond b (rolled m (Some v)) m) m.tickets
      one true = record { input = record { events = refl; ended = refl; finished = omega arith }; emitted = refl; out = refl }
      one false = record { input = record { events = refl; ended = refl; finished = omega arith }; emitted = refl; out = refl }

-- the root's window is finished
pub finished : (old new : Running) (e : Emitted) → IsDone s.Finish old new → IsEmitted old e → old.machine.tickets ≡ [] → Turned old new (t.Finished e)
finished old new e done emitted none = one (machine.root_in old.machine.versions) refl emitted
  where
    q : Plan
    q = old.plan

    m : Machine
    m = old.machine

    one : (o : Option machine.Version) → machine.root_in m.versions ≡ o → finish_answer q m o ≡ steps.Finished e.window e.matches.items e.root → Turned old new (t.Finished e)
    one None at is = absurd (cc)
    one (Some v) at is =
        let out : new_matches q m v ≡ e.matches.items = cc in
        let after : effect q m s.Finish ≡ finished_one q m (Some v) = ap (finished_one q m) at in
        let w = settled_with q (popped q m v) (machine.root_in (popped q m v).versions) in
        let into : new.machine ≡ finished_one q m (Some v) = ap (λ (c : Running). c.machine) done.1 ∙ after in
        record {
          on = worked_step old new s.Finish done.1 refl refl (omega arith) (subst (SameInput m) (sym after) (record { events = w.input.events; ended = w.input.ended; finished = let more = w.input.finished in omega arith }));
          none_out = ap (λ (n : Machine). n.tickets) into ∙ w.out ∙ none;
          emitted = ap (λ (n : Machine). n.emitted) into ∙ w.emitted ∙ ap (λ (l : List Match). m.emitted ++ l) out;
          idle = λ no. cc;
        }
