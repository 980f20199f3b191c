use Rattle.std.proofs.Common.{◌≡◌, ◌∙◌, sym, ap, subst, None, Some, Option, ℕ, ◌+◌, true, false, List, find, arith}
use Rattle.std.specs.Prelude.{slice_get}
use Rattle.sp_group.specs.declared.refusal.Refusal.TheVariants as r
use Rattle.sp_group.specs.declared.step.Step.TheVariants as s
use Rattle.sp_group.specs.Refusing.{refuse_for}
use Rattle.sp_core.specs.Holding.{holding}
use Rattle.sp_core.specs.Running.{Running, refused}
use Rattle.sp_core.proofs.Journal.{reached}
use Rattle.sp_core.proofs.Counts.{has_window, lacks_window, windows_few, finished_within}
use Rattle.sp_core.proofs.SpawnRefusals.{root_refused, root_passed, first_run}
use Rattle.sp_core.proofs.machine.Core.root_refusal.Goals as goal

pub returns-in-Some : goal.returns-in-Some
returns-in-Some c =
    let h = holding c.self.inside in
    subst (λ (x : Running). Some (r.LabelTaken c.in-Some.child) ≡ refused x (s.Spawn None c.args.label.now)) c.self.view_is
    (sym (root_refused h c.args.label.now (Some c.in-Some.child) (sym c.root.ensures.root ∙ c.in-Some.is)))

pub overflow_add-result : goal.overflow_add-result
overflow_add-result c =
    let h = holding c.self.inside in
    let reach = reached c.every_schedule.ensures h c.self.invariant in
    let few = windows_few h c.self.invariant reach c.windows_are_few.ensures in
    let within = finished_within h c.self.invariant reach c.closed_come_first.ensures in
    omega arith

pub returns-then-count-self : goal.returns-then-count-self
returns-then-count-self c =
    let h = holding c.self.inside in
    let i = c.self.invariant in
    let lacks = lacks_window h i c.count.result h.finished (c.count.ensures h.events h.ended i.windows) c.if-count-self.true in
    subst (λ (x : Running). Some (r.NoWindow (h.finished + 1)) ≡ refused x (s.Spawn None c.args.label.now)) c.self.view_is
    (sym (root_passed h c.args.label.now true (sym c.root.ensures.root ∙ c.in_default.is) lacks))

pub returns-in-Some-first : goal.returns-in-Some-first
returns-in-Some-first c =
    let h = holding c.self.inside in
    let i = c.self.invariant in
    let has = has_window h i c.count.result h.finished (c.count.ensures h.events h.ended i.windows) c.if-count-self.false in
    let run : Some c.in-Some-first.group.now ≡ find (λ _. true) c.args.label.now = c.in-Some-first.ensures.value ∙ ap (λ (l : List ℕ). slice_get l 0) c.runs.ensures.list ∙ sym (first_run c.args.label.now) in
    subst (λ (x : Running). Some (r.NotOpen c.in-Some-first.group.now) ≡ refused x (s.Spawn None c.args.label.now)) c.self.view_is
    (ap (λ (o : Option ℕ). refuse_for o r.NotOpen None) run ∙ sym (root_passed h c.args.label.now false (sym c.root.ensures.root ∙ c.in_default.is) has))

pub returns-in-None : goal.returns-in-None
returns-in-None c =
    let h = holding c.self.inside in
    let i = c.self.invariant in
    let has = has_window h i c.count.result h.finished (c.count.ensures h.events h.ended i.windows) c.if-count-self.false in
    let run : None ≡ find (λ _. true) c.args.label.now = c.in-None.ensures.value ∙ ap (λ (l : List ℕ). slice_get l 0) c.runs.ensures.list ∙ sym (first_run c.args.label.now) in
    subst (λ (x : Running). None ≡ refused x (s.Spawn None c.args.label.now)) c.self.view_is
    (ap (λ (o : Option ℕ). refuse_for o r.NotOpen None) run ∙ sym (root_passed h c.args.label.now false (sym c.root.ensures.root ∙ c.in_default.is) has))
