use Rattle.std.proofs.Common.{◌≡◌, ◌-◌, None, take, drop, length, is_some, sym, ap, subst, ◌∙◌, refl, arith}
use Rattle.std.specs.Prelude.{IfSome}
use Rattle.std.proofs.lemmas.List.Elements.{same_from_all_zip}
use Rattle.sp_match.specs.public.Known.{IsKnown}
use Rattle.sp_tree.specs.Grown.{Entry}
use Rattle.sp_core.specs.Carrying.{lent_events, ticket_of}
use Rattle.sp_piece.specs.Reading.{consumes}
use Rattle.sp_group.specs.declared.step.Step.TheVariants as s
use Rattle.sp_version.specs.declared.version.Version.{Version}
use Rattle.sp_core.specs.Leasing.{IsLent}
use Rattle.sp_core.specs.Running.{Running, refused}
use Rattle.sp_core.specs.Holding.{holding}
use Rattle.sp_core.proofs.Journal.{reached}
use Rattle.sp_core.proofs.KnownEvents.{as_many}
use Rattle.sp_core.proofs.Leased.{leases}
use Rattle.sp_core.proofs.Lending.{all_lent, is_fed, lendable, is_leased, part_of, wants_are}
use Rattle.sp_core.proofs.machine.Core.job.Goals as goal

pub overflow_sub-place : goal.overflow_sub-place
overflow_sub-place c =
    let h = holding c.self.inside in
    let lent = c.args.lent.now in
    let n = c.args.count in
    let is = subst (λ (r : Running). IsLent r lent.version n lent) (sym c.self.view_is) c.requires.lent in
    let passes = subst (λ (r : Running). refused r (s.Lease lent.version n) ≡ None) (sym c.self.view_is) c.requires.passes in
    let a = leases h lent n c.self.invariant is passes in
    (is_fed h lent n a (reached c.every_schedule.ensures h c.self.invariant) (c.compiled_plans_are_lawful.ensures h.plan c.self.invariant.compiled)).low

pub slice_bounds-copies-end : goal.slice_bounds-copies-end
slice_bounds-copies-end c =
    let h = holding c.self.inside in
    let lent = c.args.lent.now in
    let n = c.args.count in
    let is = subst (λ (r : Running). IsLent r lent.version n lent) (sym c.self.view_is) c.requires.lent in
    let passes = subst (λ (r : Running). refused r (s.Lease lent.version n) ≡ None) (sym c.self.view_is) c.requires.passes in
    let a = leases h lent n c.self.invariant is passes in
    let fed = is_fed h lent n a (reached c.every_schedule.ensures h c.self.invariant) (c.compiled_plans_are_lawful.ensures h.plan c.self.invariant.compiled) in
    omega (arith, fed.low, fed.high, ap length c.deref.ensures.value)

pub slice_bounds-to_vec-end : goal.slice_bounds-to_vec-end
slice_bounds-to_vec-end c =
    let h = holding c.self.inside in
    let lent = c.args.lent.now in
    let n = c.args.count in
    let is = subst (λ (r : Running). IsLent r lent.version n lent) (sym c.self.view_is) c.requires.lent in
    let passes = subst (λ (r : Running). refused r (s.Lease lent.version n) ≡ None) (sym c.self.view_is) c.requires.passes in
    let a = leases h lent n c.self.invariant is passes in
    let fed = is_fed h lent n a (reached c.every_schedule.ensures h c.self.invariant) (c.compiled_plans_are_lawful.ensures h.plan c.self.invariant.compiled) in
    omega (arith, fed.low, fed.high, ap length c.deref-2.ensures.value, as_many (IsKnown h.plan) h.events h.known c.self.invariant.known_are)

pub lend_matcher-requires : goal.lend_matcher-requires
lend_matcher-requires c =
    let h = holding c.self.inside in
    let lent = c.args.lent.now in
    let n = c.args.count in
    let is = subst (λ (r : Running). IsLent r lent.version n lent) (sym c.self.view_is) c.requires.lent in
    let passes = subst (λ (r : Running). refused r (s.Lease lent.version n) ≡ None) (sym c.self.view_is) c.requires.passes in
    let a = leases h lent n c.self.invariant is passes in
    record { live = ap is_some a.entry.is }

pub invariant_of-result : goal.invariant_of-result
invariant_of-result c =
    let h = holding c.self.inside in
    let lent = c.args.lent.now in
    let n = c.args.count in
    let is = subst (λ (r : Running). IsLent r lent.version n lent) (sym c.self.view_is) c.requires.lent in
    let passes = subst (λ (r : Running). refused r (s.Lease lent.version n) ≡ None) (sym c.self.view_is) c.requires.passes in
    let a = leases h lent n c.self.invariant is passes in
    let before : c.in_ok-lend_matcher.field-0 ≡ a.entry.entry.value.matcher =
    subst (λ o. IfSome o (λ (e : Entry Version). c.in_ok-lend_matcher.field-0 ≡ e.value.matcher)) a.entry.is c.in_ok-lend_matcher.ensures.lent in
    let events : c.in_ok-events.events.items ≡ lent_events h.events (ticket_of lent) =
    c.in_ok-events.ensures ∙ part_of c.deref.result.now h.events (lent.first - 1) lent.count c.deref.ensures.value in
    let known : c.in_ok-known.known.items ≡ take lent.count (drop (lent.first - 1) h.known) =
    same_from_all_zip _ _ _ c.in_ok-known.ensures.ok (λ x y is. is) ∙ part_of c.deref-2.result.now h.known (lent.first - 1) lent.count c.deref-2.ensures.value in
    record {
      wanting = c.consumes.ensures ∙ ap consumes c.deref-3.ensures
          ∙ wants_are h lent n a (reached c.every_schedule.ensures h c.self.invariant) (c.compiled_plans_are_lawful.ensures h.plan c.self.invariant.compiled) c.in_ok-lend_matcher.field-0 before;
      lendable = lendable h lent n a (reached c.every_schedule.ensures h c.self.invariant) (c.compiled_plans_are_lawful.ensures h.plan c.self.invariant.compiled)
          c.same_plans_read_alike.ensures c.in_ok-lend_matcher.field-0 c.of.result c.of-2.result before (c.of.ensures ∙ events) (c.of-2.ensures ∙ known);
    }

pub returns-clause-job : goal.returns-clause-job
returns-clause-job c =
    let h = holding c.self.inside in
    let lent = c.args.lent.now in
    let n = c.args.count in
    let is = subst (λ (r : Running). IsLent r lent.version n lent) (sym c.self.view_is) c.requires.lent in
    let passes = subst (λ (r : Running). refused r (s.Lease lent.version n) ≡ None) (sym c.self.view_is) c.requires.passes in
    let a = leases h lent n c.self.invariant is passes in
    let before : c.in_ok-lend_matcher.field-0 ≡ a.entry.entry.value.matcher =
    subst (λ o. IfSome o (λ (e : Entry Version). c.in_ok-lend_matcher.field-0 ≡ e.value.matcher)) a.entry.is c.in_ok-lend_matcher.ensures.lent in
    let events : c.in_ok-events.events.items ≡ lent_events h.events (ticket_of lent) =
    c.in_ok-events.ensures ∙ part_of c.deref.result.now h.events (lent.first - 1) lent.count c.deref.ensures.value in
    rw (← c.self.view_is)
    (is_leased h lent n a (reached c.every_schedule.ensures h c.self.invariant) (c.compiled_plans_are_lawful.ensures h.plan c.self.invariant.compiled)
    _ refl refl refl before (c.of.ensures ∙ events) c.in_ok-copy.ensures refl)

pub returns-clause-events : goal.returns-clause-events
returns-clause-events c =
    let h = holding c.self.inside in
    let lent = c.args.lent.now in
    let n = c.args.count in
    let is = subst (λ (r : Running). IsLent r lent.version n lent) (sym c.self.view_is) c.requires.lent in
    let passes = subst (λ (r : Running). refused r (s.Lease lent.version n) ≡ None) (sym c.self.view_is) c.requires.passes in
    let a = leases h lent n c.self.invariant is passes in
    let events : c.in_ok-events.events.items ≡ lent_events h.events (ticket_of lent) =
    c.in_ok-events.ensures ∙ part_of c.deref.result.now h.events (lent.first - 1) lent.count c.deref.ensures.value in
    ap length (c.of.ensures ∙ events)
    ∙ all_lent h lent n a (reached c.every_schedule.ensures h c.self.invariant) (c.compiled_plans_are_lawful.ensures h.plan c.self.invariant.compiled)
