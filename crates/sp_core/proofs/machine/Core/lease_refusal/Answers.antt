use Rattle.std.proofs.Common.{◌≡◌, true, false, sym, ap, subst, ◌∙◌}
use Rattle.sp_plan.specs.WindowNumbers.{size}
use Rattle.sp_group.specs.declared.step.Step.TheVariants as s
use Rattle.sp_core.specs.Holding.{holding}
use Rattle.sp_core.specs.Leasing.{HasBegun, is_closed}
use Rattle.sp_core.specs.Running.{Running, refused}
use Rattle.sp_core.specs.Suppressing.{conflict_at}
use Rattle.sp_core.proofs.HeldConflict.{held_version}
use Rattle.sp_core.proofs.Journal.{reached}
use Rattle.sp_core.proofs.LeaseRefused.{begun, has_unread, refused_conflict, refused_gone, refused_out, refused_unread, unread_fed, unread_open, unread_shut}
use Rattle.sp_core.proofs.machine.Core.lease_refusal.Goals as goal
use Rattle.sp_core.proofs.machine.Core.lease_refusal.Goals.{then-position-fed, else-position-fed+then-closed, else-position-fed+else-closed}

pub returns-in_default : goal.returns-in_default
returns-in_default c n =
    refused_gone (holding c.self.inside) c.args.version n c.in_default.ensures ∙ ap (λ (r : Running). refused r (s.Lease c.args.version n)) c.self.view_is

pub returns-in-Some-out : goal.returns-in-Some-out
returns-in-Some-out c n =
    let h = holding c.self.inside in
    let held = c.in-Some.held.now in
    let d = held_version h c.self.invariant (reached c.every_schedule.ensures h c.self.invariant) c.args.version held c.in-Some.ensures in
    refused_out h c.args.version n held d c.in-Some-out.ticket c.in-Some-out.is ∙ ap (λ (r : Running). refused r (s.Lease c.args.version n)) c.self.view_is

pub returns-in-Some-conflict_of : goal.returns-in-Some-conflict_of
returns-in-Some-conflict_of c n =
    let h = holding c.self.inside in
    let held = c.in-Some.held.now in
    let d = held_version h c.self.invariant (reached c.every_schedule.ensures h c.self.invariant) c.args.version held c.in-Some.ensures in
    refused_conflict h c.args.version n held d c.in-Some-conflict_of.event c.in_default-out.is
    (c.in-Some-conflict_of.ensures ∙ ap (λ (r : Running). conflict_at r.plan r.machine c.args.version) (sym c.self.view_is))
    ∙ ap (λ (r : Running). refused r (s.Lease c.args.version n)) c.self.view_is

pub fed_of-fed-requires : goal.fed_of-fed-requires
fed_of-fed-requires c =
    let h = holding c.self.inside in
    let held = c.in-Some.held.now in
    let d = held_version h c.self.invariant (reached c.every_schedule.ensures h c.self.invariant) c.args.version held c.in-Some.ensures in
    record { begun = subst (λ (r : Running). HasBegun r held.window) c.self.view_is (begun h c.args.version 0 held d) }

pub returns-then-not-held : goal.returns-then-not-held
returns-then-not-held c n =
    let h = holding c.self.inside in
    let held = c.in-Some.held.now in
    let d = held_version h c.self.invariant (reached c.every_schedule.ensures h c.self.invariant) c.args.version held c.in-Some.ensures in
    let p = held.position in
    let fed = c.fed_of-fed.result.0 in
    let shut = c.fed_of-fed.result.1 in
    let unread : c.if-position-fed.value ≡ has_unread p fed shut held.done = elim c.if-position-fed.branch [
      | then-position-fed w ↦ w.value-is ∙ unread_fed p fed shut held.done w.if-position-fed.true
      | else-position-fed+then-closed w ↦ w.value-is ∙ unread_shut p fed shut held.done w.if-position-fed.false w.if-closed.true
      | else-position-fed+else-closed w ↦ w.value-is ∙ unread_open p fed shut held.done w.if-position-fed.false w.if-closed.false
    ] in
    refused_unread h c.args.version n held d fed shut true c.in_default-out.is
    (c.in_default-conflict_of.ensures ∙ ap (λ (r : Running). conflict_at r.plan r.machine c.args.version) (sym c.self.view_is))
    (c.fed_of-fed.ensures.fed ∙ ap (λ (r : Running). size r.plan r.machine.events held.window) (sym c.self.view_is))
    (c.fed_of-fed.ensures.closed ∙ ap (λ (r : Running). is_closed r held.window) (sym c.self.view_is)) (sym c.if-not-held.true ∙ unread)
    ∙ ap (λ (r : Running). refused r (s.Lease c.args.version n)) c.self.view_is

pub returns-else-not-held : goal.returns-else-not-held
returns-else-not-held c n =
    let h = holding c.self.inside in
    let held = c.in-Some.held.now in
    let d = held_version h c.self.invariant (reached c.every_schedule.ensures h c.self.invariant) c.args.version held c.in-Some.ensures in
    let p = held.position in
    let fed = c.fed_of-fed.result.0 in
    let shut = c.fed_of-fed.result.1 in
    let unread : c.if-position-fed.value ≡ has_unread p fed shut held.done = elim c.if-position-fed.branch [
      | then-position-fed w ↦ w.value-is ∙ unread_fed p fed shut held.done w.if-position-fed.true
      | else-position-fed+then-closed w ↦ w.value-is ∙ unread_shut p fed shut held.done w.if-position-fed.false w.if-closed.true
      | else-position-fed+else-closed w ↦ w.value-is ∙ unread_open p fed shut held.done w.if-position-fed.false w.if-closed.false
    ] in
    refused_unread h c.args.version n held d fed shut false c.in_default-out.is
    (c.in_default-conflict_of.ensures ∙ ap (λ (r : Running). conflict_at r.plan r.machine c.args.version) (sym c.self.view_is))
    (c.fed_of-fed.ensures.fed ∙ ap (λ (r : Running). size r.plan r.machine.events held.window) (sym c.self.view_is))
    (c.fed_of-fed.ensures.closed ∙ ap (λ (r : Running). is_closed r held.window) (sym c.self.view_is)) (sym c.if-not-held.false ∙ unread)
    ∙ ap (λ (r : Running). refused r (s.Lease c.args.version n)) c.self.view_is
