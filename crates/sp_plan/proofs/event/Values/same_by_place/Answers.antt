use Rattle.std.proofs.Common.{◌≡◌, sym, ◌∙◌}
use Rattle.sp_plan.proofs.Decided.{not_other}
use Rattle.sp_plan.proofs.Parts.{one_more}
use Rattle.sp_plan.proofs.event.Values.same_by_place.Goals as goal

pub loop-place-preserved : goal.loop-place-preserved
loop-place-preserved c =
    let x = c.get.result in
    let y = c.get-in-loop-place.result in
    let alike : x ≡ y = not_other x y (sym c.ne.ensures ∙ c.if-ne.false) in
    one_more c.loop-place.place c.args.self.now c.args.other.now c.loop-place.invariant (sym c.get.ensures ∙ alike ∙ c.get-in-loop-place.ensures)
