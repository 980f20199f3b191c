use Rattle.std.proofs.Common.{◌≡◌, ℕ, ◌&&◌, [], Bool, false, List, map, get_or, sym, ◌∙◌, arith}
use Rattle.std.proofs.lemmas.List.{get_or-map}
use Rattle.sp_plan.specs.Masks.{has, outcome}
use Rattle.sp_plan.specs.Values.{BoundEvents}
use Rattle.sp_plan.specs.declared.plan.Pred.{Test}
use Rattle.sp_plan.proofs.Holdings.{asked_itself}
use Rattle.sp_plan.proofs.MaskBits.{others_left, seen_more, unasked}
use Rattle.sp_plan.proofs.runs.each_asked.Goals.{then-has_bit, else-has_bit}
use Rattle.sp_plan.proofs.runs.each_asked.Goals as goal

pub loop-run-preserved : goal.loop-run-preserved
loop-run-preserved g c =
    let run = c.loop-run.run in
    let bounds : List BoundEvents = map g.R.Binds.binds c.args.asking.now.runs.now in
    let says : ℕ → Bool = λ k. has c.args.asked k && outcome (Test c.args.by c.args.left.now c.args.right.now) c.args.asking.now.event.now bounds k in
    let so : c.if-has_bit.is ≡ says run = elim c.if-has_bit.branch [
      | then-has_bit w ↦
          let at : w.bound.result.now ≡ get_or bounds run [] = w.bound.ensures ∙ sym (get_or-map g.R.Binds.binds c.args.asking.now.runs.now run w.index-asking-run.result [] c.loop-run-test.true) in
          asked_itself c.args.by c.args.left.now c.args.right.now c.args.asking.now.event.now bounds w.bound.result.now run c.if-has_bit.is w.sides_compare-is.result (has c.args.asked run) at
          (sym c.has_bit.ensures ∙ w.if-has_bit.true) w.is-is w.sides_compare-is.ensures
      | else-has_bit w ↦ unasked c.if-has_bit.is (has c.args.asked run) _ (sym c.has_bit.ensures ∙ w.if-has_bit.false) (w.is-is ∙ w.if-has_bit.false)
    ] in
    record {
      seen = seen_more says c.loop-run.mask c.with_bit-mask.result run c.if-has_bit.is c.loop-run.invariant.seen (c.loop-run.invariant.others run (omega arith)) c.with_bit-mask.ensures.same c.with_bit-mask.ensures.others so;
      others = others_left (λ k. false) c.loop-run.mask c.with_bit-mask.result run c.loop-run.invariant.others c.with_bit-mask.ensures.others;
    }
