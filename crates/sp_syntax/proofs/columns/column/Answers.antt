use Rattle.sp_query.specs.Grammar as g
use Rattle.sp_query.specs.Same.{SameColumn}
use Rattle.sp_syntax.specs.Printing.{Prints}
use Rattle.sp_syntax.proofs.Adding.{on_ok, adds_both}
use Rattle.sp_syntax.proofs.Clauses as l
use Rattle.sp_syntax.proofs.columns.column.Goals as goal

pub returns : goal.returns
returns c = on_ok _ _ _ (λ e. adds_both _ _ _ _ _ (Prints g.Column SameColumn c.args.column.now) c.in_ok-name.ensures e (λ x y p q. l.prints_column c.args.column.now x y p q)) c.kind.ensures
