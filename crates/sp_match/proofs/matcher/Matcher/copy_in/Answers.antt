use Rattle.std.proofs.Common.{◌≡◌, List, map, sym, ap, subst, ◌∙◌}
use Rattle.std.specs.Arc.{arc_value}
use Rattle.sp_plan.specs.declared.plan.Plan.{Plan}
use Rattle.sp_match.specs.inside.Kept.{Kept, all_kept, pairs}
use Rattle.sp_match.specs.inside.Keeping.{IsKept}
use Rattle.sp_match.specs.inside.Takers.{IsHeld}
use Rattle.sp_match.specs.inside.Wanted.{AreLeft}
use Rattle.sp_match.proofs.matcher.Matcher.copy_in.Goals as goal

pub invariant_of-rooms : goal.invariant_of-rooms
invariant_of-rooms c =
    let own = c.self.inside in
    let q = arc_value c.in_ok-rooms-inside.field-0 in
    let plan : arc_value own.plan ≡ q = sym c.in_ok-rooms-inside.ensures in
    let runs : all_kept own.runs.items ≡ all_kept c.copy_all.new.runs.items = sym (c.in_ok-copy_all.ensures ∙ ap all_kept c.deref.ensures.value) in (
      subst (λ (p : Plan). IsKept p own.count (all_kept c.copy_all.new.runs.items)) plan (subst (IsKept (arc_value own.plan) own.count) runs c.self.invariant.0),
      c.copy_from-2.ensures q (map pairs (all_kept c.copy_all.new.runs.items))
          (subst (λ (p : Plan). IsHeld p (map pairs (all_kept c.copy_all.new.runs.items)) own.holdings) plan
          (subst (λ (ks : List Kept). IsHeld (arc_value own.plan) (map pairs ks) own.holdings) runs c.self.invariant.1)),
      c.copy_from.ensures q (all_kept c.copy_all.new.runs.items)
          (subst (λ (p : Plan). AreLeft p (all_kept c.copy_all.new.runs.items) own.lefts) plan (subst (λ (ks : List Kept). AreLeft (arc_value own.plan) ks own.lefts) runs c.self.invariant.2)),
    )
