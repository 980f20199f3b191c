use Rattle.std.proofs.Common.{take, string_bytes}
use Rattle.sp_query.specs.declared.mark.Mark.TheVariants as m
use Rattle.sp_query.specs.Grammar as g
use Rattle.sp_query.specs.Same.{Pairwise, SameColumn}
use Rattle.sp_syntax.specs.Printing.{Adds, Prints, Each}
use Rattle.sp_syntax.proofs.columns.more_columns.Given as goal

abbrev pub invariant-loop-one : goal.invariant-loop-one
invariant-loop-one l = Adds (string_bytes l.initial.out) (string_bytes l.out) (Prints (Each (g.After m.Comma g.Column)) (Pairwise SameColumn) (take l.one-index l.columns))
