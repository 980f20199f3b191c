use Rattle.sp_chance.specs.Matrices.{first}
use Rattle.sp_chance.proofs.Whole.{squared-same}
use Rattle.sp_chance.proofs.powers.write_first.Goals as goal

pub returns-clause-value : goal.returns-clause-value
unfolding first
returns-clause-value c =
    let n = c.args.rows in
    let most = c.requires.rows in
    let two = squared-same n _ _ _ most c.write_transitions.ensures.matrix c.write_transitions.ensures.value c.multiply.ensures.value in
    let four = squared-same n _ _ _ most c.multiply.ensures.matrix two c.multiply-2.ensures.value in
    let eight = squared-same n _ _ _ most c.multiply-2.ensures.matrix four c.multiply-3.ensures.value in
    squared-same n _ _ _ most c.multiply-3.ensures.matrix eight c.multiply-4.ensures.value
