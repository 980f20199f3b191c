use Rattle.std.proofs.Common.{ℕ, map, sym, ap, subst, ◌∙◌, arith}
use Rattle.sp_plan.specs.Runs.{Run}
use Rattle.sp_match.specs.inside.Kept.{kept, pairs}
use Rattle.sp_match.specs.inside.Good.{Good}
use Rattle.sp_match.specs.inside.Takers.{is_wanted, run_in}
use Rattle.sp_match.proofs.RunsAreHeld.{bit_more, has_none, pairs_at}
use Rattle.sp_match.proofs.RunsUndo.{good_here}
use Rattle.sp_match.proofs.holdings.wanting.Goals as goal

pub loop-at-init : goal.loop-at-init
loop-at-init c = record { seen = λ k below. absurd (omega (arith, below)); others = λ k above. has_none k }

pub wants-requires-clause-good : goal.wants-requires-clause-good
wants-requires-clause-good c = subst (λ r. Good c.args.plan.now (kept r)) (sym c.index-runs-at.is) (good_here c.args.plan.now c.args.runs.now c.loop-at.at c.index-runs-at.result c.loop-at-test.true c.requires.good)

pub loop-at-preserved : goal.loop-at-preserved
loop-at-preserved c =
    let q = c.args.plan.now in
    let f = λ (k : ℕ). is_wanted q (run_in (map pairs (map kept c.args.runs.now)) k) c.args.name in
    let own = c.wants.ensures ∙ ap (λ (r : Run). is_wanted q r c.args.name) (sym (pairs_at c.args.runs.now c.loop-at.at c.index-runs-at.result c.loop-at-test.true c.index-runs-at.is)) in
    let more = bit_more f c.loop-at.mask c.with_bit-mask.result c.loop-at.at c.wants.result c.loop-at.invariant.seen c.loop-at.invariant.others c.with_bit-mask.ensures.same c.with_bit-mask.ensures.others own in
    record { seen = more.0; others = more.1 }
