use Rattle.std.proofs.Common.{◌+◌, arith}
use Rattle.std.proofs.lemmas.List.{get_or-replicate}
use Rattle.sp_chance.proofs.Whole.{products-most}
use Rattle.sp_chance.proofs.matrix.join.Goals as goal

pub sum_up-requires-clause-none : goal.sum_up-requires-clause-none
sum_up-requires-clause-none c j column = get_or-replicate 33 j 0 0 column

pub write_parts-requires-clause-most : goal.write_parts-requires-clause-most
write_parts-requires-clause-most c j column =
    omega (arith, c.sum_up.ensures j column, products-most (c.args.row + 1) _ _ c.requires.left c.requires.right c.args.row j (omega arith) column)
