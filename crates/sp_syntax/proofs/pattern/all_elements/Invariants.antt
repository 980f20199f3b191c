use Rattle.std.proofs.Common.{take, string_bytes}
use Rattle.sp_query.specs.Grammar as g
use Rattle.sp_query.specs.Same.{Pairwise, SameElement}
use Rattle.sp_syntax.specs.Printing.{Adds, Prints, Each}
use Rattle.sp_syntax.proofs.pattern.all_elements.Given as goal

abbrev pub invariant-loop-one : goal.invariant-loop-one
invariant-loop-one l = Adds (string_bytes l.initial.out) (string_bytes l.out) (Prints (Each g.Element) (Pairwise SameElement) (take l.one-index l.elements))
