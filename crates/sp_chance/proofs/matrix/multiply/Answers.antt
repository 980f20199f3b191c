use Rattle.std.proofs.Common.{◌∙◌, arith}
use Rattle.sp_chance.specs.Matrices.{at, joined}
use Rattle.sp_chance.proofs.Cells.{others-same}
use Rattle.sp_chance.proofs.Whole.{joined-most, joined-falls, product-rows, product-written, has-rows}
use Rattle.sp_chance.proofs.matrix.multiply.Goals as goal

pub settle-requires-clause-falls : goal.settle-requires-clause-falls
settle-requires-clause-falls c i j row up column =
    c.loop-row.invariant i j (omega arith) column ∙ joined-falls c.args.rows _ _ c.requires.left c.requires.right i j row up column

pub settle-requires-clause-most : goal.settle-requires-clause-most
settle-requires-clause-most c i row =
    omega (arith, others-same (at c.loop-row.target) (joined c.args.left.now c.args.right.now) i (λ j column _. c.loop-row.invariant i j (omega arith) column), joined-most c.args.rows _ _ c.requires.left c.requires.right c.requires.rows i row)

pub returns-clause-value : goal.returns-clause-value
returns-clause-value c i j row column =
    c.settle.ensures i j row column
    ∙ product-written c.args.rows c.args.left.now c.args.right.now c.loop-row.target c.requires.rows (λ i j row column. c.loop-row.invariant i j (omega arith) column) i j row column

pub returns-clause-matrix : goal.returns-clause-matrix
returns-clause-matrix c =
    has-rows c.args.rows _ _ (omega arith)
    (λ i j row column.
    c.settle.ensures i j row column
    ∙ product-written c.args.rows c.args.left.now c.args.right.now c.loop-row.target c.requires.rows (λ i j row column. c.loop-row.invariant i j (omega arith) column) i j row column)
    (product-rows c.args.rows _ _ c.requires.left c.requires.right c.requires.rows)
