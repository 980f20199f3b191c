use Rattle.std.proofs.Common.{refl, sym, ap, subst, ◌∙◌}
use Rattle.std.specs.Prelude.{IsSome, option_copied}
use Rattle.std.proofs.lemmas.Option.{none-some}
use Rattle.sp_group.specs.Machine.{version_at}
use Rattle.sp_core.specs.Holding.{holding}
use Rattle.sp_core.specs.Running.{Running}
use Rattle.sp_core.specs.Suppressing.{least_suppressed}
use Rattle.sp_core.specs.Withheld.{lesser}
use Rattle.sp_core.proofs.Suppressed.{below_parent, found_more, found_all, least_of, live_entry}
use Rattle.sp_core.proofs.machine.Core.least_suppressed.Goals as goal
use Rattle.sp_core.proofs.machine.Core.least_suppressed.Goals.{in_default-2-via-in-Some+in_default, in_default-2-via-in_default}

pub loop-parent-init : goal.loop-parent-init
loop-parent-init c = record {
  live = live_entry (holding c.self.inside) c.args.version (subst (λ (r : Running). IsSome (version_at r.machine.versions c.args.version)) (sym c.self.view_is) c.requires.live);
  found = refl;
}

pub unreachable-requires : goal.unreachable-requires
unreachable-requires c =
    let b = below_parent (holding c.self.inside) c.self.invariant c.loop-parent.below c.in-Some.parent (sym c.parent.ensures ∙ c.in-Some.is) in
    elim c.in_default-2.branch [
      | in_default-2-via-in-Some+in_default w ↦ none-some b.held (sym (ap option_copied w.in_default-2.is-1) ∙ c.get.ensures ∙ b.holds)
      | in_default-2-via-in_default w ↦ none-some b.label (sym (ap option_copied w.in_default-2.is-0) ∙ c.label.ensures ∙ b.labelled)
    ]

pub loop-parent-smaller : goal.loop-parent-smaller
loop-parent-smaller c = (below_parent (holding c.self.inside) c.self.invariant c.loop-parent.below c.in-Some.parent (sym c.parent.ensures ∙ c.in-Some.is)).less

pub loop-parent-preserved : goal.loop-parent-preserved
loop-parent-preserved c =
    let h = holding c.self.inside in
    let b = below_parent h c.self.invariant c.loop-parent.below c.in-Some.parent (sym c.parent.ensures ∙ c.in-Some.is) in
    let skipped = c.args.skipped.now.list in
    let rest = least_of h c.in-Some.parent c.args.first c.args.count skipped in
    record {
      live = b.live;
      found = ap (λ o. lesser o rest) (c.lesser-found.ensures ∙ ap (lesser c.loop-parent.found) c.least_withheld.ensures)
          ∙ found_more h c.loop-parent.below c.in-Some.parent c.args.first c.args.count skipped c.in-Some-Some.label.now c.in-Some-Some.held.now c.loop-parent.found b
          (sym c.label.ensures ∙ ap option_copied c.in-Some-Some.is-0) (sym c.get.ensures ∙ ap option_copied c.in-Some-Some.is-1)
          ∙ c.loop-parent.invariant.found;
    }

pub returns : goal.returns
returns c =
    let h = holding c.self.inside in
    let skipped = c.args.skipped.now.list in
    c.lesser.ensures ∙ ap (lesser c.loop-parent.found) (c.least_unskipped.ensures
    ∙ found_all h c.loop-parent.below c.args.first c.args.count skipped c.loop-parent.invariant.live (sym c.parent.ensures ∙ c.in_default.is))
    ∙ c.loop-parent.invariant.found
    ∙ ap (λ (r : Running). least_suppressed r.plan r.machine c.args.version c.args.first c.args.count skipped) c.self.view_is
