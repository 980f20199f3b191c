use Rattle.std.proofs.Common.{◌≡◌, ℕ, ◌+◌, ap, arith}
use Rattle.sp_chance.specs.Matrices.{total, at}
use Rattle.sp_chance.proofs.Totals.{total-none, total-more, total-fewer}
use Rattle.sp_chance.proofs.Cells.{others-before}
use Rattle.sp_chance.proofs.matrix.rest.Goals as goal

pub loop-column-init : goal.loop-column-init
loop-column-init c = omega (arith, total-none (at c.args.matrix.now c.args.row))

pub overflow_sub-rest : goal.overflow_sub-rest
overflow_sub-rest c =
    let f : ℕ → ℕ = at c.args.matrix.now c.args.row in
    let j = c.loop-column.column in
    omega (arith, total-more j f, total-fewer (j + 1) c.args.row f (omega arith), others-before (at c.args.matrix.now) c.args.row c.requires.row c.requires.falls, c.requires.most)

pub loop-column-preserved : goal.loop-column-preserved
loop-column-preserved c =
    let f : ℕ → ℕ = at c.args.matrix.now c.args.row in
    let j = c.loop-column.column in
    omega (arith, total-more j f, total-fewer (j + 1) c.args.row f (omega arith), others-before (at c.args.matrix.now) c.args.row c.requires.row c.requires.falls, c.requires.most)

pub returns : goal.returns
returns c =
    let end : c.loop-column.column ≡ c.args.row = omega arith in
    omega (arith, others-before (at c.args.matrix.now) c.args.row c.requires.row c.requires.falls, ap (λ n. total n (at c.args.matrix.now c.args.row)) end)
