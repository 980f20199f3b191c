use Rattle.std.proofs.Common.{◌∷◌, ◌++◌, [], codes, arith, refl}
use Rattle.sp_lex.specs.declared.token.Kernel.TheVariants as k
use Rattle.sp_query.specs.declared.mark.Mark.TheVariants as m
use Rattle.sp_query.specs.Grammar as g
use Rattle.sp_query.specs.Same.{SameIdent}
use Rattle.sp_syntax.specs.Printing.{Prints}
use Rattle.sp_syntax.proofs.Adding.{adds_behind}
use Rattle.sp_syntax.proofs.Spelled.{mark_spelled}
use Rattle.sp_syntax.proofs.Speaking.{prints_after}
use Rattle.sp_syntax.proofs.Lists.{items_begin, items_on, items_whole}
use Rattle.sp_syntax.proofs.names.more_names.Goals as goal

pub loop-ident-init : goal.loop-ident-init
loop-ident-init c = items_begin (g.After m.Comma g.Name) SameIdent _

pub loop-ident-preserved : goal.loop-ident-preserved
loop-ident-preserved c = items_on (g.After m.Comma g.Name) SameIdent _ _ _ c.args.idents.now c.loop-ident.ident-index c.ident-item.result (omega arith) c.ident-item.is c.loop-ident.invariant (adds_behind _ _ _ (codes "," ++ 32 ∷ []) _ (Prints (g.After m.Comma g.Name) SameIdent _) c.in_ok-token.ensures c.in_ok-name.ensures (λ y p. prints_after m.Comma g.Name SameIdent _ k.Comma (codes ",") y refl (mark_spelled k.Comma (codes ",") refl) p))

pub returns : goal.returns
returns c = items_whole (g.After m.Comma g.Name) SameIdent _ _ c.args.idents.now c.loop-ident.ident-index (omega arith) c.loop-ident.invariant
