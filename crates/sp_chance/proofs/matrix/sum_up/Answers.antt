use Rattle.std.proofs.Common.{ℕ, ◌+◌, ◌*◌, sym, ap, ◌∙◌, arith}
use Rattle.std.proofs.Math.Nat.{zero-mul}
use Rattle.sp_chance.specs.Matrices.{at}
use Rattle.sp_chance.proofs.Totals.{total-none, total-first, total-more, total-fewer}
use Rattle.sp_chance.proofs.Whole.{products-most}
use Rattle.sp_chance.proofs.matrix.sum_up.Goals as goal

pub loop-between-init : goal.loop-between-init
loop-between-init c j column =
    c.requires.none j column ∙ sym (total-none (λ k. at c.args.left.now c.args.row k * at c.args.right.now k j))

pub add_row-requires-clause-room : goal.add_row-requires-clause-room
add_row-requires-clause-room c j column =
    let f : ℕ → ℕ = λ k. at c.args.left.now c.args.row k * at c.args.right.now k j in
    let k = c.loop-between.between in
    omega (arith, c.loop-between.invariant j column, total-more k f, total-fewer (k + 1) 33 f (omega arith), products-most (c.args.row + 1) _ _ c.requires.left c.requires.right c.args.row j (omega arith) column, ap (λ x. x * at c.args.right.now k j) c.from.ensures)

pub loop-between-preserved : goal.loop-between-preserved
loop-between-preserved c j column =
    let f : ℕ → ℕ = λ k. at c.args.left.now c.args.row k * at c.args.right.now k j in
    let k = c.loop-between.between in
    omega (arith, c.add_row.ensures j column, c.loop-between.invariant j column, total-more k f, ap (λ x. x * at c.args.right.now k j) c.from.ensures)

pub returns : goal.returns
returns c j column =
    let f : ℕ → ℕ = λ k. at c.args.left.now c.args.row k * at c.args.right.now k j in
    c.loop-between.invariant j column
    ∙ sym (total-first c.loop-between.between 33 f (omega arith) (λ k from below.
    ap (λ x. x * at c.args.right.now k j) (c.requires.left.falls c.args.row k (omega arith) (omega arith) below) ∙ zero-mul (at c.args.right.now k j)))
