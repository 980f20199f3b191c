use Rattle.sp_compile.proofs.Sums as f
use Rattle.sp_compile.proofs.arithmetic.aligned.Goals as goal

pub alignment_of-requires-clause-left : goal.alignment_of-requires-clause-left
alignment_of-requires-clause-left c = f.scaled c.args.left c.requires.left

pub alignment_of-requires-clause-right : goal.alignment_of-requires-clause-right
alignment_of-requires-clause-right c = f.scaled c.args.right c.requires.right

pub raise-one-requires-clause-by : goal.raise-one-requires-clause-by
raise-one-requires-clause-by c = (f.fits c.args.span c.args.left c.args.right _ _ _ c.requires.left c.requires.right c.in_ok-alignment.ensures.sort c.in_ok-alignment.ensures.raises).by_left

pub raise-one-requires-clause-bounded : goal.raise-one-requires-clause-bounded
raise-one-requires-clause-bounded c = (f.fits c.args.span c.args.left c.args.right _ _ _ c.requires.left c.requires.right c.in_ok-alignment.ensures.sort c.in_ok-alignment.ensures.raises).left_fits

pub raise-two-requires-clause-by : goal.raise-two-requires-clause-by
raise-two-requires-clause-by c = (f.fits c.args.span c.args.left c.args.right _ _ _ c.requires.left c.requires.right c.in_ok-alignment.ensures.sort c.in_ok-alignment.ensures.raises).by_right

pub raise-two-requires-clause-bounded : goal.raise-two-requires-clause-bounded
raise-two-requires-clause-bounded c = (f.fits c.args.span c.args.left c.args.right _ _ _ c.requires.left c.requires.right c.in_ok-alignment.ensures.sort c.in_ok-alignment.ensures.raises).right_fits

pub returns : goal.returns
returns c = f.aligned c.args.span c.args.left c.args.right _ _ _ _ _ c.requires.left c.requires.right c.in_ok-alignment.ensures.sort c.in_ok-alignment.ensures.raises
    (f.raised_is _ _ _ _ c.raise-one.ensures c.in_ok-one.ensures.0) (f.raised_is _ _ _ _ c.raise-two.ensures c.in_ok-one.ensures.1)
