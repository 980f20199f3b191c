use Rattle.std.proofs.Common.{◌≡◌, ℕ, ◌∙◌, subst, arith}
use Rattle.sp_chance.specs.Matrices.{at}
use Rattle.sp_chance.proofs.Cells.{AreSettled, none-settled, one-more-settled, rows-settled, others-same}
use Rattle.sp_chance.proofs.matrix.settle.Goals as goal

pub loop-state-init : goal.loop-state-init
loop-state-init c = none-settled _ c.requires.size

pub rest-requires : goal.rest-requires
rest-requires c =
    let s = c.loop-state.state in
    let so = c.loop-state.invariant in
    record {
      size = so.size;
      row = omega arith;
      falls = λ j up below. so.left s j (omega arith) (omega arith) below ∙ c.requires.falls s j c.loop-state-test.true up below;
      most = omega (arith, others-same (at c.loop-state.target) (at c.args.target.now) s (λ j below _. so.left s j (omega arith) (omega arith) below), c.requires.most s c.loop-state-test.true);
    }

pub loop-state-preserved : goal.loop-state-preserved
loop-state-preserved c =
    one-more-settled _ c.loop-state.target c.loop-state.state c.rest.result c.loop-state.invariant (omega arith) c.rest.ensures

pub returns : goal.returns
returns c i j row column =
    let end : c.loop-state.state ≡ c.args.rows = omega arith in
    rows-settled _ _ c.args.rows c.requires.rows (subst (λ (n : ℕ). AreSettled c.args.target.now c.loop-state.target n) end c.loop-state.invariant) i j row column
