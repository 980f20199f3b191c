use Rattle.std.proofs.Common.{◌∷◌, ◌++◌, [], codes, arith, refl}
use Rattle.sp_lex.specs.declared.token.Kernel.TheVariants as k
use Rattle.sp_query.specs.declared.mark.Mark.TheVariants as m
use Rattle.sp_query.specs.Grammar as g
use Rattle.sp_query.specs.Same.{SameColumn}
use Rattle.sp_syntax.specs.Printing.{Prints}
use Rattle.sp_syntax.proofs.Adding.{adds_behind}
use Rattle.sp_syntax.proofs.Spelled.{mark_spelled}
use Rattle.sp_syntax.proofs.Speaking.{prints_after}
use Rattle.sp_syntax.proofs.Lists.{items_begin, items_on, items_whole}
use Rattle.sp_syntax.proofs.columns.more_columns.Goals as goal

pub loop-one-init : goal.loop-one-init
loop-one-init c = items_begin (g.After m.Comma g.Column) SameColumn _

pub loop-one-preserved : goal.loop-one-preserved
loop-one-preserved c = items_on (g.After m.Comma g.Column) SameColumn _ _ _ c.args.columns.now c.loop-one.one-index c.one-item.result (omega arith) c.one-item.is c.loop-one.invariant (adds_behind _ _ _ (codes "," ++ 32 ∷ []) _ (Prints (g.After m.Comma g.Column) SameColumn _) c.in_ok-token.ensures c.in_ok-column.ensures (λ y p. prints_after m.Comma g.Column SameColumn _ k.Comma (codes ",") y refl (mark_spelled k.Comma (codes ",") refl) p))

pub returns : goal.returns
returns c = items_whole (g.After m.Comma g.Column) SameColumn _ _ c.args.columns.now c.loop-one.one-index (omega arith) c.loop-one.invariant
