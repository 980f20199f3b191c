use Rattle.std.proofs.Common.{ℕ, List, sym, ap, subst, ◌∙◌}
use Rattle.std.specs.List.Sorted.{IsStrictlyIncreasing}
use Rattle.std.specs.Prelude.{option_copied, IsSome}
use Rattle.std.proofs.lemmas.Option.{none-some}
use Rattle.sp_group.specs.Machine.{is_suppressed, version_at}
use Rattle.sp_core.specs.Holding.{holding, running}
use Rattle.sp_core.specs.Running.{Running}
use Rattle.sp_core.specs.Suppressing.{suppressed_within}
use Rattle.sp_core.proofs.Range.{passing_is}
use Rattle.sp_core.proofs.Suppressed.{Taken, below_parent, taken_first, taken_more, taken_all}
use Rattle.sp_core.proofs.machine.Core.suppressed_within.Goals as goal
use Rattle.sp_core.proofs.machine.Core.suppressed_within.Goals.{in_default-2-via-in-Some+in_default, in_default-2-via-in_default}

pub loop-parent-init : goal.loop-parent-init
loop-parent-init c =
    let h = holding c.self.inside in
    let live = subst (λ (r : Running). IsSome (version_at r.machine.versions c.args.version)) (sym c.self.view_is) c.requires.live in
    subst (λ (r : Running). Taken r c.args.version c.args.version c.args.first c.args.count c.in_ok-numbers.numbers.list) c.self.view_is
    (taken_first (running h) c.args.version c.args.first c.args.count c.in_ok-numbers.numbers.list c.in_ok-numbers.ensures live)

pub unreachable-requires : goal.unreachable-requires
unreachable-requires c =
    let b = below_parent (holding c.self.inside) c.self.invariant c.loop-parent.below c.in-Some.parent (sym c.parent.ensures ∙ c.in-Some.is) in
    elim c.in_default-2.branch [
      | in_default-2-via-in-Some+in_default w ↦ none-some b.held (sym (ap option_copied w.in_default-2.is-1) ∙ c.get.ensures ∙ b.holds)
      | in_default-2-via-in_default w ↦ none-some b.label (sym (ap option_copied w.in_default-2.is-0) ∙ c.label.ensures ∙ b.labelled)
    ]

pub loop-parent-smaller : goal.loop-parent-smaller
loop-parent-smaller c = (below_parent (holding c.self.inside) c.self.invariant c.loop-parent.below c.in-Some.parent (sym c.parent.ensures ∙ c.in-Some.is)).less

pub loop-parent-preserved : goal.loop-parent-preserved
loop-parent-preserved c =
    let h = holding c.self.inside in
    let b = below_parent h c.self.invariant c.loop-parent.below c.in-Some.parent (sym c.parent.ensures ∙ c.in-Some.is) in
    let before : Taken (running h) c.args.version c.loop-parent.below c.args.first c.args.count c.loop-parent.numbers.list =
    subst (λ (r : Running). Taken r c.args.version c.loop-parent.below c.args.first c.args.count c.loop-parent.numbers.list) (sym c.self.view_is) c.loop-parent.invariant in
    subst (λ (r : Running). Taken r c.args.version c.in-Some.parent c.args.first c.args.count c.withheld_within.new.numbers.list) c.self.view_is
    (taken_more h c.args.version c.loop-parent.below c.in-Some.parent c.args.first c.args.count c.in-Some-Some.label.now c.loop-parent.numbers.list
    c.withheld_within.new.numbers.list c.in-Some-Some.held.now b (sym c.label.ensures ∙ ap option_copied c.in-Some-Some.is-0)
    (sym c.get.ensures ∙ ap option_copied c.in-Some-Some.is-1) c.in_ok-withheld_within.ensures before)

pub returns : goal.returns
returns c =
    let h = holding c.self.inside in
    let numbers = c.loop-parent.numbers.list in
    let rises : IsStrictlyIncreasing numbers = subst (λ (l : List ℕ). IsStrictlyIncreasing l) c.list.ensures.list c.list.ensures.rising in
    let before : Taken (running h) c.args.version c.loop-parent.below c.args.first c.args.count numbers =
    subst (λ (r : Running). Taken r c.args.version c.loop-parent.below c.args.first c.args.count numbers) (sym c.self.view_is) c.loop-parent.invariant in
    passing_is c.rising_same.ensures (is_suppressed (running h).plan (running h).machine c.args.version) c.args.first c.args.count numbers rises
    (taken_all h c.args.version c.loop-parent.below c.args.first c.args.count numbers (sym c.parent.ensures ∙ c.in_default.is) before)
    ∙ ap (λ (r : Running). suppressed_within r.plan r.machine c.args.version c.args.first c.args.count) c.self.view_is
