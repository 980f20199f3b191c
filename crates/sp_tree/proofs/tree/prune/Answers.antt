use Rattle.std.proofs.Common.{◌-◌, sym, ap, subst, ◌∙◌, refl}
use Rattle.sp_store.specs.Stored.{Stored}
use Rattle.sp_tree.specs.Joined.{joined}
use Rattle.sp_tree.specs.Branches.{changed_by}
use Rattle.sp_tree.proofs.Pruned.{At, at_start, step_kept, step_gone}
use Rattle.sp_tree.proofs.Reshaped.{shapes_none, shapes_kept, shapes_gone}
use Rattle.sp_tree.proofs.Searched.{falling}
use Rattle.sp_tree.proofs.tree.prune.Goals as goal

pub loop-i-init : goal.loop-i-init
loop-i-init g c = (
  at_start c.args.first (changed_by c.args.change) c.args.versions.now.items c.args.values.now c.len-i.result c.requires.joined (c.len-i.ensures ∙ c.args.versions.now.ok.0) c.requires.within,
  refl,
  refl,
  shapes_none c.args.versions.now.items,
)

pub loop-i-preserved-then-not-stays : goal.loop-i-preserved-then-not-stays
loop-i-preserved-then-not-stays g c =
    let h = c.loop-i.invariant in let rest = c.take.ensures.rest in (
      subst (λ (z : Stored g.row.V.Denot). At c.args.first (changed_by c.args.change) (c.loop-i.i - 1) (joined c.args.versions.now.items c.args.values.now.entries) c.remove-gone.new.self.items z) (sym rest)
          (step_gone c.args.first (changed_by c.args.change) c.loop-i.i (joined c.args.versions.now.items c.args.values.now.entries) c.loop-i.versions.items c.loop-i.values c.loop-i-test.true h.0 c.stays.new.versions.items c.remove-gone.new.self.items c.remove-gone.result c.if-not-stays.ensures c.remove-gone.ensures.value c.remove-gone.ensures.items),
      ap (λ (z : Stored g.row.V.Denot). z.next) rest ∙ h.1,
      ap (λ (z : Stored g.row.V.Denot). z.bound) rest ∙ h.2,
      shapes_gone c.args.first (changed_by c.args.change) c.loop-i.i c.args.versions.now.items (joined c.args.versions.now.items c.args.values.now.entries) c.loop-i.versions.items c.loop-i.values c.loop-i-test.true h.0 h.3 c.stays.new.versions.items c.remove-gone.new.self.items c.if-not-stays.ensures c.remove-gone.ensures.items,
    )

pub loop-i-preserved-then-not-stays-2 : goal.loop-i-preserved-then-not-stays-2
loop-i-preserved-then-not-stays-2 g c =
    let h = c.loop-i.invariant in let rest = c.take.ensures.rest in (
      subst (λ (z : Stored g.row.V.Denot). At c.args.first (changed_by c.args.change) (c.loop-i.i - 1) (joined c.args.versions.now.items c.args.values.now.entries) c.remove-gone.new.self.items z) (sym rest)
          (step_gone c.args.first (changed_by c.args.change) c.loop-i.i (joined c.args.versions.now.items c.args.values.now.entries) c.loop-i.versions.items c.loop-i.values c.loop-i-test.true h.0 c.stays.new.versions.items c.remove-gone.new.self.items c.remove-gone.result c.if-not-stays.ensures c.remove-gone.ensures.value c.remove-gone.ensures.items),
      ap (λ (z : Stored g.row.V.Denot). z.next) rest ∙ h.1,
      ap (λ (z : Stored g.row.V.Denot). z.bound) rest ∙ h.2,
      shapes_gone c.args.first (changed_by c.args.change) c.loop-i.i c.args.versions.now.items (joined c.args.versions.now.items c.args.values.now.entries) c.loop-i.versions.items c.loop-i.values c.loop-i-test.true h.0 h.3 c.stays.new.versions.items c.remove-gone.new.self.items c.if-not-stays.ensures c.remove-gone.ensures.items,
    )

pub loop-i-preserved : goal.loop-i-preserved
loop-i-preserved g c =
    let h = c.loop-i.invariant in (
      step_kept c.args.first (changed_by c.args.change) c.loop-i.i (joined c.args.versions.now.items c.args.values.now.entries) c.loop-i.versions.items c.loop-i.values c.loop-i-test.true h.0 c.stays.new.versions.items c.if-not-stays.ensures,
      h.1,
      h.2,
      shapes_kept c.args.first (changed_by c.args.change) c.loop-i.i c.args.versions.now.items (joined c.args.versions.now.items c.args.values.now.entries) c.loop-i.versions.items c.loop-i.values c.loop-i-test.true h.0 h.3 c.stays.new.versions.items c.if-not-stays.ensures,
    )

pub stays-requires-clause-fall : goal.stays-requires-clause-fall
stays-requires-clause-fall g c = falling c.loop-i.versions.items c.loop-i.values c.loop-i.invariant.0.both
