use Rattle.std.proofs.Common.{take, string_bytes}
use Rattle.sp_query.specs.Grammar as g
use Rattle.sp_query.specs.Same.{Pairwise, SameIdent}
use Rattle.sp_syntax.specs.Printing.{Adds, Prints, Each}
use Rattle.sp_syntax.proofs.names.names.Given as goal

abbrev pub invariant-loop-ident : goal.invariant-loop-ident
invariant-loop-ident l = Adds (string_bytes l.initial.out) (string_bytes l.out) (Prints (Each g.Name) (Pairwise SameIdent) (take l.ident-index l.idents))
