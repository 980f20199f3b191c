use Rattle.std.proofs.Common.{◌-◌, length, sym, ap, subst, ◌∙◌, refl, arith}
use Rattle.std.specs.Option.{option_copied}
use Rattle.std.specs.Prelude.{IsTrue, ◌↔◌}
use Rattle.sp_match.specs.public.Matching.{Matching, SameMatching}
use Rattle.sp_version.specs.declared.version.Version.{Version}
use Rattle.sp_core.specs.Returning.{IsPlaceOf, IsCarried}
use Rattle.sp_core.specs.Running.{Running}
use Rattle.sp_core.specs.Holding.{holding}
use Rattle.sp_core.proofs.Carried.{out_there, found_out, not_carried, low, high, carried, has_all}
use Rattle.sp_core.proofs.Entries.{not_found}
use Rattle.sp_core.proofs.Lending.{part_of}
use Rattle.sp_core.proofs.machine.Core.is_carried.Goals.{then-has_values, else-has_values}
use Rattle.sp_core.proofs.machine.Core.is_carried.Goals as goal

pub returns-in_default-get : goal.returns-in_default-get
returns-in_default-get c =
    let h = holding c.self.inside in
    let n = c.args.job.now.ticket in
    let d = c.index-lent.result.now in
    let at = subst (λ (r : Running). IsPlaceOf r.machine.tickets n c.in-Some.place) (sym c.self.view_is) c.in-Some.ensures.some in
    let none = not_found _ (sym (ap option_copied c.in_default-get.is) ∙ c.get.ensures) in
    let out = out_there h.tickets n c.in-Some.place d at c.index-lent.ensures in (
      λ t. absurd (cc),
      λ is. absurd (not_carried h n d c.args.job.now out none refl (subst (λ (r : Running). IsCarried r c.args.job.now) (sym c.self.view_is) is)),
    )

pub overflow_sub-from : goal.overflow_sub-from
overflow_sub-from c =
    let h = holding c.self.inside in
    let n = c.args.job.now.ticket in
    let d = c.index-lent.result.now in
    let at = subst (λ (r : Running). IsPlaceOf r.machine.tickets n c.in-Some.place) (sym c.self.view_is) c.in-Some.ensures.some in
    let held = c.in-Some-get.held.now in
    let f = found_out c.every_schedule.ensures h c.self.invariant n c.in-Some.place d held at c.index-lent.ensures (sym (ap option_copied c.in-Some-get.is) ∙ c.get.ensures) in
    low h n d f.entry f.is (c.windows_hold.ensures h.plan c.self.invariant.compiled.windowed)

pub slice_bounds-events-end : goal.slice_bounds-events-end
slice_bounds-events-end c =
    let h = holding c.self.inside in
    let n = c.args.job.now.ticket in
    let d = c.index-lent.result.now in
    let at = subst (λ (r : Running). IsPlaceOf r.machine.tickets n c.in-Some.place) (sym c.self.view_is) c.in-Some.ensures.some in
    let held = c.in-Some-get.held.now in
    let f = found_out c.every_schedule.ensures h c.self.invariant n c.in-Some.place d held at c.index-lent.ensures (sym (ap option_copied c.in-Some-get.is) ∙ c.get.ensures) in
    let most = high h n d f.entry f.is (c.windows_hold.ensures h.plan c.self.invariant.compiled.windowed) in
    omega (arith, most, ap length c.deref.ensures.value)

pub returns-then-all_same : goal.returns-then-all_same
returns-then-all_same c =
    let h = holding c.self.inside in
    let n = c.args.job.now.ticket in
    let job = c.args.job.now in
    let d = c.index-lent.result.now in
    let at = subst (λ (r : Running). IsPlaceOf r.machine.tickets n c.in-Some.place) (sym c.self.view_is) c.in-Some.ensures.some in
    let held = c.in-Some-get.held.now in
    let f = found_out c.every_schedule.ensures h c.self.invariant n c.in-Some.place d held at c.index-lent.ensures (sym (ap option_copied c.in-Some-get.is) ∙ c.get.ensures) in
    let part = part_of c.deref.result.now h.events (d.first - 1) d.count c.deref.ensures.value in
    let own = c.get-then-all_same.ensures in
    let lent = c.get-then-all_same-2.ensures in
    let same : IsTrue c.same.result ↔ SameMatching held.matcher job.before =
    subst (λ (m : Matching). IsTrue c.same.result ↔ SameMatching held.matcher m) lent
    (subst (λ (m : Matching). IsTrue c.same.result ↔ SameMatching m c.get-then-all_same-2.result.now) own c.same.ensures.same) in
    elim c.if-has_values.branch [
      | then-has_values w ↦
          let values = c.has_values.ensures.0 w.if-has_values.true in
          let events = sym w.as_slice.ensures ∙ w.all_same.ensures.0 (sym w.value-is ∙ c.if-all_same.true) ∙ part in
          subst (λ (r : Running). IsTrue c.same.result ↔ IsCarried r job) c.self.view_is (
            (λ t. carried h n d f.entry f.is job refl values events
                (subst (λ (v : Version). SameMatching v.matcher job.before) (sym f.value) (same.0 t))),
            (λ is. same.1 (subst (λ (v : Version). SameMatching v.matcher job.before) f.value (has_all h n d f.entry f.is job refl is).same)),
          )
      | else-has_values w ↦ let shut = w.value-is in let open_ = c.if-all_same.true in absurd (cc)
    ]

pub returns-else-all_same : goal.returns-else-all_same
returns-else-all_same c =
    let h = holding c.self.inside in
    let n = c.args.job.now.ticket in
    let job = c.args.job.now in
    let d = c.index-lent.result.now in
    let at = subst (λ (r : Running). IsPlaceOf r.machine.tickets n c.in-Some.place) (sym c.self.view_is) c.in-Some.ensures.some in
    let held = c.in-Some-get.held.now in
    let f = found_out c.every_schedule.ensures h c.self.invariant n c.in-Some.place d held at c.index-lent.ensures (sym (ap option_copied c.in-Some-get.is) ∙ c.get.ensures) in
    let part = part_of c.deref.result.now h.events (d.first - 1) d.count c.deref.ensures.value in
    elim c.if-has_values.branch [
      | then-has_values w ↦
          let out = c.if-all_same.false in
          subst (λ (r : Running). IsTrue c.if-has_values.value ↔ IsCarried r job) c.self.view_is (
            (λ t. absurd (cc)),
            (λ is. w.value-is ∙ w.all_same.ensures.1 (w.as_slice.ensures ∙ (has_all h n d f.entry f.is job refl is).events ∙ sym part)),
          )
      | else-has_values w ↦
          let out = c.if-all_same.false in
          subst (λ (r : Running). IsTrue c.if-has_values.value ↔ IsCarried r job) c.self.view_is (
            (λ t. absurd (cc)),
            (λ is. let own = c.has_values.ensures.1 (has_all h n d f.entry f.is job refl is).values in let none = w.if-has_values.false in absurd (cc)),
          )
    ]
