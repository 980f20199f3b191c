-- Where no step goes on, every closed window is finished.
use Rattle.std.proofs.Common.{◌≡◌, ℕ, ◌+◌, ◌<◌, Bool, true, false, cond, List, [], ◌∷◌, Some, None, Option, is_some, nat_lt, inl, inr, ◌⊎◌, refl, sym, ◌∙◌, ap, subst, arith}
use Rattle.std.specs.Prelude.{IsSome}
use Rattle.std.proofs.lemmas.Bool.Decides.{nat_tests}
use Rattle.std.proofs.lemmas.List.{append-nil}
use Rattle.std.proofs.lemmas.Option.{same_Some, none-some}
use Rattle.sp_plan.specs.declared.plan.Plan.{Plan}
use Rattle.sp_plan.specs.Compiled.{IsCompiled}
use Rattle.sp_plan.specs.Runs.{State}
use Rattle.sp_plan.specs.Windows.{IsWindowed, closed}
use Rattle.sp_group.specs.declared.refusal.Refusal.{Refusal}
use Rattle.sp_group.specs.declared.step.Step.TheVariants as s
use Rattle.sp_group.specs.Machine.{Machine, Version, Ticket, root_in, ticket_at}
use Rattle.sp_group.specs.Refusing.{refusal}
use Rattle.sp_rules.specs.Kept.{Shape, Stands}
use Rattle.sp_rules.specs.Schedules.{Reached, HasWork, GoesOn, IsReturning}
use Rattle.sp_window.specs.Laws.{ClosedFirst}
use Rattle.sp_core.specs.Running.{Running}
use Rattle.sp_split.specs.declared.turning.Turn.TheVariants as t
use Rattle.sp_split.specs.Stages.{AllFinished, Turned}
use Rattle.sp_split.proofs.Steps.{worked_none}

-- the root is of the first window that is not finished
root_window : (q : Plan) (f : Version → State) (n : ℕ) (vs : List Version) (v : Version) → Shape q f n vs → root_in vs ≡ Some v → v.window ≡ n + 1
root_window q f n [] v shape is = absurd (none-some v is)
root_window q f n (u ∷ vs) v shape is = one u.parent shape.0.stands is (root_window q f n vs v shape.1)
  where
    one : (p : Option ℕ) → Stands q f n vs u p → cond (is_some p) (root_in vs) (Some u) ≡ Some v → (root_in vs ≡ Some v → v.window ≡ n + 1) → v.window ≡ n + 1
    one None stands is rest = ap (λ (w : Version). w.window) (sym (same_Some u v is)) ∙ stands.1
    one (Some p) stands is rest = rest is

module _ (q : Plan) (bound : ℕ) (m : Machine) (reached : Reached q bound m) (compiled : IsCompiled q) (first : (q : Plan) → IsWindowed q → ClosedFirst q) where
  -- a closed window that is not finished is work
  work : m.finished < closed q m.events m.ended → HasWork q m
  work low =
      let within = (first q compiled.windowed).within m.events m.ended reached.kept.sane.good in (
        omega arith,
        λ v root. let own = root_window q _ m.finished m.versions v reached.kept.sane.shape root in inl (omega arith),
      )

  pub all_done : (GoesOn q bound m → ⊥) → m.finished ≡ closed q m.events m.ended
  all_done stuck = one (nat_lt m.finished (closed q m.events m.ended)) refl
    where
      one : (b : Bool) → nat_lt m.finished (closed q m.events m.ended) ≡ b → m.finished ≡ closed q m.events m.ended
      one true is = absurd (stuck (reached.goes_on (work (grind (arith, nat_tests)))))
      one false is = let low = reached.sequential.finished in grind (arith, nat_tests)

  -- there is no root, and none can be made
  pub none_to_make : (r : Refusal) → m.versions ≡ [] → refusal q bound m (s.Spawn None []) ≡ Some r → m.finished ≡ closed q m.events m.ended
  none_to_make r none refused = all_done stuck
    where
      stuck : GoesOn q bound m → ⊥
      stuck (inl here) = none-some r (sym here.1 ∙ refused)
      stuck (inr there) = none-some there.0 (sym (ap root_in none) ∙ there.1)

  -- nothing is out for the root, which is not done and can't be leased
  pub none_to_read : (v : Version) (n : ℕ) (r : Refusal) → root_in m.versions ≡ Some v → m.tickets ≡ [] → IsSome (refusal q bound m s.Finish)
      → refusal q bound m (s.Lease v.id n) ≡ Some r → m.finished ≡ closed q m.events m.ended
  none_to_read v n r root none undone refused = all_done stuck
    where
      at : (u : Version) → root_in m.versions ≡ Some u → (((k : ℕ) → refusal q bound m (s.Lease u.id k) ≡ None) ⊎ IsReturning q bound m u ⊎ (refusal q bound m s.Finish ≡ None)) → ⊥
      at u is (inl leases) = none-some r (sym (leases n) ∙ ap (λ (w : Version). refusal q bound m (s.Lease w.id n)) (same_Some u v (sym is ∙ root)) ∙ refused)
      at u is (inr (inl back)) = none-some back.ticket (sym (ap (λ (l : List Ticket). ticket_at l back.ticket.number) none) ∙ back.is)
      at u is (inr (inr done)) = let no = ap is_some done in cc

      stuck : GoesOn q bound m → ⊥
      stuck (inl here) = none-some v (sym (ap root_in here.0) ∙ root)
      stuck (inr there) = at there.0 there.1 there.2

-- nothing was done, since nothing is left to do
pub idle : (old new : Running) → new ≡ old → old.machine.tickets ≡ [] → AllFinished old → Turned old new t.Idle
idle old new is none all = record {
  on = worked_none old new is;
  none_out = ap (λ (c : Running). c.machine.tickets) is ∙ none;
  emitted = ap (λ (c : Running). c.machine.emitted) is ∙ sym (append-nil old.machine.emitted);
  idle = λ _. subst AllFinished (sym is) all;
}
