use Rattle.std.proofs.Common.{◌/◌, ◌%◌, ◌∙◌, arith}
use Rattle.sp_chance.proofs.Counting.{tally-within}
use Rattle.sp_chance.proofs.Whole.{transitions-rows, transitions-written, written-most, written-falls, has-rows, fewer-rows}
use Rattle.sp_chance.proofs.moves.write_transitions.Goals as goal

pub part-requires : goal.part-requires
part-requires c =
    let n = c.loop-cell.cell in
    record {
      size = omega arith;
      row = omega arith;
      column = omega arith;
      most = omega (arith, c.count.ensures (n / 33) (n % 33) (omega arith) (omega arith), c.count.ensures (n / 33) (n / 33) (omega arith) (omega arith), tally-within c.args.pairs.now (n / 33) (n % 33));
    }

pub settle-requires-clause-falls : goal.settle-requires-clause-falls
settle-requires-clause-falls c =
    written-falls c.args.rows c.args.pairs.now _ c.loop-cell.target c.requires.moves c.requires.rows c.count.ensures (λ n below. c.loop-cell.invariant n (omega arith))

pub settle-requires-clause-most : goal.settle-requires-clause-most
settle-requires-clause-most c =
    written-most c.args.rows c.args.pairs.now _ c.loop-cell.target c.requires.rows c.count.ensures (λ n below. c.loop-cell.invariant n (omega arith))

pub returns-clause-value : goal.returns-clause-value
returns-clause-value c i j row column =
    c.settle.ensures i j row column
    ∙ transitions-written c.args.rows c.args.pairs.now _ c.loop-cell.target c.requires.rows c.count.ensures (λ n below. c.loop-cell.invariant n (omega arith)) i j row column

pub returns-clause-matrix : goal.returns-clause-matrix
returns-clause-matrix c =
    has-rows c.args.rows _ _ (omega arith)
    (λ i j row column.
    c.settle.ensures i j row column
    ∙ transitions-written c.args.rows c.args.pairs.now _ c.loop-cell.target c.requires.rows c.count.ensures (λ n below. c.loop-cell.invariant n (omega arith)) i j row column)
    (fewer-rows c.args.rows 33 _ c.requires.rows (transitions-rows c.args.pairs.now c.requires.moves))
