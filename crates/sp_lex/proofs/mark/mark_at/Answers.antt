use Rattle.sp_lex.proofs.Front as l
use Rattle.std.proofs.Common.{arith}
use Rattle.sp_lex.proofs.mark.mark_at.Goals as goal

pub returns-in-Some : goal.returns-in-Some
returns-in-Some c = let x = c.in-Some.ensures in l.pair_reads _ _ _ x.0 x.1 x.2 x.3

pub returns-in-Some-single : goal.returns-in-Some-single
returns-in-Some-single c = l.mark_reads _ _ _ _ (l.first_and_rest _ (omega arith)) c.in-Some-single.ensures c.in_default.ensures
