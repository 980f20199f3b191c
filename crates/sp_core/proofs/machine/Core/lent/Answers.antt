use Rattle.std.proofs.Common.{◌≡◌, ◌+◌, ◌-◌, ◌&&◌, nat_le, min, None, sym, ap, subst, ◌∙◌, refl, arith}
use Rattle.std.specs.Option.{option_copied}
use Rattle.sp_plan.specs.WindowNumbers.{size}
use Rattle.sp_group.specs.declared.step.Step.TheVariants as s
use Rattle.sp_core.specs.declared.lent.Lent.{Lent}
use Rattle.sp_core.specs.Leasing.{HasBegun, is_closed}
use Rattle.sp_core.specs.Suppressing.{suppressed_within}
use Rattle.sp_core.specs.Running.{Running, refused}
use Rattle.sp_core.specs.Holding.{holding, machine_of, running}
use Rattle.sp_core.proofs.Journal.{reached}
use Rattle.sp_core.proofs.HeldConflict.{held_version}
use Rattle.sp_core.proofs.LeaseRefused.{begun, refused_gone}
use Rattle.sp_core.proofs.Unread.{reads, next_few, is_lent}
use Rattle.sp_core.proofs.machine.Core.lent.Goals as goal
use Rattle.sp_core.proofs.machine.Core.lent.Goals.{then-closed, else-closed}

pub unreachable-requires : goal.unreachable-requires
unreachable-requires c =
    let h = holding c.self.inside in
    let id = c.args.version in
    let passes = subst (λ (r : Running). refused r (s.Lease id c.args.count) ≡ None) (sym c.self.view_is) c.requires.passes in
    let gone = refused_gone h id c.args.count (sym (ap option_copied c.in_default.is) ∙ c.get.ensures) ∙ passes in
    cc

pub fed_of-fed-requires : goal.fed_of-fed-requires
fed_of-fed-requires c =
    let h = holding c.self.inside in
    let v = c.in-Some.held.now in
    let d = held_version h c.self.invariant (reached c.every_schedule.ensures h c.self.invariant) c.args.version v (sym (ap option_copied c.in-Some.is) ∙ c.get.ensures) in
    record { begun = subst (λ (r : Running). HasBegun r v.window) c.self.view_is (begun h c.args.version c.args.count v d) }

pub overflow_sub-unread : goal.overflow_sub-unread
overflow_sub-unread c =
    let h = holding c.self.inside in
    let v = c.in-Some.held.now in
    let d = held_version h c.self.invariant (reached c.every_schedule.ensures h c.self.invariant) c.args.version v (sym (ap option_copied c.in-Some.is) ∙ c.get.ensures) in
    let read = reads h c.args.version v d in
    let fed : c.fed_of-fed.result.0 ≡ size h.plan h.events v.window = c.fed_of-fed.ensures.fed ∙ ap (λ (r : Running). size r.plan r.machine.events v.window) (sym c.self.view_is) in
    omega arith

pub overflow_add-first : goal.overflow_add-first
overflow_add-first c =
    let h = holding c.self.inside in
    let k = c.self.invariant in
    let v = c.in-Some.held.now in
    let d = held_version h k (reached c.every_schedule.ensures h k) c.args.version v (sym (ap option_copied c.in-Some.is) ∙ c.get.ensures) in
    let few = next_few h c.args.version v d k (c.windows_hold.ensures h.plan k.compiled.windowed) (begun h c.args.version c.args.count v d) in
    omega arith

pub returns-clause-lent : goal.returns-clause-lent
returns-clause-lent c =
    let h = holding c.self.inside in
    let id = c.args.version in
    let n = c.args.count in
    let v = c.in-Some.held.now in
    let d = held_version h c.self.invariant (reached c.every_schedule.ensures h c.self.invariant) id v (sym (ap option_copied c.in-Some.is) ∙ c.get.ensures) in
    let fed : c.fed_of-fed.result.0 ≡ size h.plan h.events v.window = c.fed_of-fed.ensures.fed ∙ ap (λ (r : Running). size r.plan r.machine.events v.window) (sym c.self.view_is) in
    let closed : c.fed_of-fed.result.1 ≡ is_closed (running h) v.window = c.fed_of-fed.ensures.closed ∙ ap (λ (r : Running). is_closed r v.window) (sym c.self.view_is) in
    let snapshot : c.in_ok-suppressed_within.field-0.list ≡ suppressed_within h.plan (machine_of h) id (v.first + v.position) c.min-lent.result =
    c.in_ok-suppressed_within.ensures ∙ ap (λ (r : Running). suppressed_within r.plan r.machine id (v.first + v.position) c.min-lent.result) (sym c.self.view_is) in
    let fits = nat_le (c.fed_of-fed.result.0 - v.position) n in
    let closes : c.if-closed.result ≡ (c.fed_of-fed.result.1 && fits) =
    elim c.if-closed.branch [
      | then-closed w ↦ w.result-is ∙ ap (λ b. b && fits) (sym w.if-closed.true)
      | else-closed w ↦ w.result-is ∙ w.if-closed.false ∙ ap (λ b. b && fits) (sym w.if-closed.false)
    ] in
    let lent : Lent = record {
      ticket = h.next_ticket;
      version = id;
      first = v.first + v.position;
      count = c.min-lent.result;
      snapshot = c.in_ok-suppressed_within.field-0;
      closes = c.if-closed.result;
    } in
    rw (← c.self.view_is)
    (is_lent h id v d lent n (record {
      ticket = refl;
      version = refl;
      begins = refl;
      count = c.min-lent.ensures ∙ ap (λ k. min (k - v.position) n) fed;
      snapshot = snapshot;
      closes = closes ∙ ap (λ b. b && fits) closed ∙ ap (λ k. is_closed (running h) v.window && nat_le (k - v.position) n) fed;
    }))
