use Rattle.std.proofs.Common.{arith}
use Rattle.sp_query.specs.Grammar as g
use Rattle.sp_query.specs.Same.{SameElement}
use Rattle.sp_syntax.proofs.Lists.{items_begin, items_on, items_whole}
use Rattle.sp_syntax.proofs.pattern.all_elements.Goals as goal

pub loop-one-init : goal.loop-one-init
loop-one-init c = items_begin g.Element SameElement _

pub loop-one-preserved : goal.loop-one-preserved
loop-one-preserved c = items_on g.Element SameElement _ _ _ c.args.elements.now c.loop-one.one-index c.one-item.result (omega arith) c.one-item.is c.loop-one.invariant (c.in_ok-element.ensures)

pub returns : goal.returns
returns c = items_whole g.Element SameElement _ _ c.args.elements.now c.loop-one.one-index (omega arith) c.loop-one.invariant
