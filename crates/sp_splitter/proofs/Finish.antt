-- Windows are finished, one after another, while the root is done.
use Rattle.std.proofs.Common.{◌≡◌, ℕ, Bool, true, false, not, List, [], ◌∷◌, ◌++◌, Option, Some, None, is_none, refl, sym, ap, subst, ◌∙◌, append_assoc}
use Rattle.std.proofs.lemmas.Grind.{flat_map-append}
use Rattle.std.proofs.lemmas.List.{append-nil}
use Rattle.std.proofs.lemmas.Option.{same_Some, none-some}
use Rattle.sp_plan.specs.declared.found.Match.{Match}
use Rattle.sp_version.specs.declared.version.Version as held
use Rattle.sp_group.specs.declared.refusal.Refusal.TheVariants as why
use Rattle.sp_group.specs.declared.step.Step.TheVariants as s
use Rattle.sp_group.specs.Family.{entry_at}
use Rattle.sp_group.specs.Machine as machine
use Rattle.sp_group.specs.Machine.{Version, Machine}
use Rattle.sp_group.specs.Refusing.{finish_refusal, refuse_if}
use Rattle.sp_tree.specs.Grown.{Grown, kin, root_in, value_of}
use Rattle.sp_core.specs.declared.emitted.Emitted.{Emitted}
use Rattle.sp_core.specs.Finishing.{IsEmitted}
use Rattle.sp_core.specs.Holding.{version_of}
use Rattle.sp_core.specs.Running.{IsDone, Running, refused}
use Rattle.sp_core.specs.Showing.{IsTreeOf}
use Rattle.sp_core.proofs.Roots.{root_entry}
use Rattle.sp_spread.specs.Calm.{AreCalm, NoneDone}
use Rattle.sp_splitter.specs.Finishing.{FinishedOne, Finishes, one_finished}
use Rattle.sp_splitter.specs.Knowing.{Known}
use Rattle.sp_splitter.specs.Stages.{Goes, Went, matches_of}
use Rattle.sp_splitter.proofs.Stepping.{emits_finish, went_finish, goes_finish, none_read_finish, went_then}

-- a finish is refused where the root is not done
finish_tested : (n : ℕ) (b : Bool) → is_none (refuse_if (not b) (why.NotDone n) None) ≡ b
finish_tested n true = refl
finish_tested n false = refl

-- where a finish is refused no root is done
pub none_done : (m : Machine) → is_none (finish_refusal m (machine.root_in m.versions)) ≡ false → NoneDone m
none_done m refusal v at = sym (ap (λ (o : Option Version). is_none (finish_refusal m o)) at ∙ finish_tested m.finished v.done) ∙ refusal

-- the root is in its tree
pub root_held : (c : Running) (t : Grown held.Version) (root : ℕ) → IsTreeOf c t → Some root ≡ root_in t.entries → None ≡ value_of (entry_at kin t.entries root) → ⊥
root_held c t root is at none = let r = root_entry t root is.grown (sym at) in none-some r.entry.value (none ∙ ap value_of r.is)

-- the root tells whether it is done
pub root_told : (c : Running) (t : Grown held.Version) (root : ℕ) (v : held.Version) → IsTreeOf c t → Some root ≡ root_in t.entries → Some v ≡ value_of (entry_at kin t.entries root)
    → v.done ≡ is_none (refused c s.Finish)
root_told c t root v is at got =
    let r = root_entry t root is.grown (sym at) in
    let same : v ≡ r.entry.value = same_Some v r.entry.value (got ∙ ap value_of r.is) in
    let there : machine.root_in c.machine.versions ≡ Some (version_of r.entry) = ap machine.root_in (sym is.versions) ∙ r.version in
    ap (λ (w : held.Version). w.done) same
    ∙ sym (ap (λ (o : Option Version). is_none (finish_refusal c.machine o)) there ∙ finish_tested c.machine.finished r.entry.value.done)

pub finished_one : (old new : Running) (e : Emitted) → Known old → IsDone s.Finish old new → IsEmitted old e → AreCalm old.plan old.machine → FinishedOne old new e
finished_one old new e known done is calm = record {
  went = λ n batch. went_finish n batch old new e known is done;
  goes = λ n. goes_finish n old new known done;
  told = is;
  done = done;
  emitted = (emits_finish old new e is done).emitted;
  read = none_read_finish old new done;
  calm = subst (λ (c : Running). AreCalm c.plan c.machine) (sym done.1) (known.lawful.calm.by_finish done.0 calm);
}

-- one more was finished, behind others
pub went_on : (a b c : Running) (e : Emitted) → ((n batch : ℕ) → Went n batch a b) → ((n : ℕ) → Goes n a b) → FinishedOne b c e → (n batch : ℕ) → Went n batch a c
went_on a b c e went goes more n batch = went_then n batch a b c (goes n) (went n batch) (more.went n batch)

-- what windows emit, one after another
pub matches_more : (all after : List Emitted) (e : Emitted) (first second third : List Match) → after ≡ all ++ e ∷ []
    → second ≡ first ++ matches_of all → third ≡ second ++ e.matches.items → third ≡ first ++ matches_of after
matches_more all after e first second third longer here next =
    next ∙ ap (λ (l : List Match). l ++ e.matches.items) here ∙ append_assoc first (matches_of all) e.matches.items
    ∙ ap (λ (l : List Match). first ++ l) (sym (flat_map-append (λ (x : Emitted). x.matches.items) all (e ∷ []) ∙ ap (λ (l : List Match). matches_of all ++ l) (append-nil e.matches.items)))
    ∙ ap (λ (l : List Emitted). first ++ matches_of l) (sym longer)

-- the windows that are finished, with one more
pub finishes_more : (old c d : Running) (all after : List Emitted) (e : Emitted) → after ≡ all ++ e ∷ [] → Finishes old c all → FinishedOne c d e → Finishes old d after
finishes_more old c d all after e longer finishes more = subst (λ (l : List Emitted). Finishes old d l) (sym longer) (one_finished c d all e finishes more.told more.done)
