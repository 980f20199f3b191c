use Rattle.std.proofs.Common.{arith}
use Rattle.sp_query.specs.Grammar as g
use Rattle.sp_query.specs.Same.{SameIdent}
use Rattle.sp_syntax.proofs.Lists.{items_begin, items_on, items_whole}
use Rattle.sp_syntax.proofs.names.names.Goals as goal

pub loop-ident-init : goal.loop-ident-init
loop-ident-init c = items_begin g.Name SameIdent _

pub loop-ident-preserved : goal.loop-ident-preserved
loop-ident-preserved c = items_on g.Name SameIdent _ _ _ c.args.idents.now c.loop-ident.ident-index c.ident-item.result (omega arith) c.ident-item.is c.loop-ident.invariant (c.in_ok-name.ensures)

pub returns : goal.returns
returns c = items_whole g.Name SameIdent _ _ c.args.idents.now c.loop-ident.ident-index (omega arith) c.loop-ident.invariant
