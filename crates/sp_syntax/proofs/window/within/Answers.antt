use Rattle.std.proofs.Common.{◌∷◌, ◌++◌, [], codes}
use Rattle.sp_query.specs.Grammar as g
use Rattle.sp_query.specs.Same.{SameLength}
use Rattle.sp_syntax.specs.Printing.{Prints}
use Rattle.sp_syntax.proofs.Adding.{on_ok, adds_behind}
use Rattle.sp_syntax.proofs.Clauses as l
use Rattle.sp_syntax.proofs.window.within.Goals as goal

pub returns : goal.returns
returns c = on_ok _ _ _ (λ e. adds_behind _ _ _ (codes "WITHIN" ++ 32 ∷ []) _ (Prints g.Within SameLength c.args.length.now) c.in_ok-token.ensures e (λ y p. l.prints_within c.args.length.now y p)) c.amount.ensures
