use Rattle.std.proofs.Common.{◌∷◌, ◌++◌, [], subst, sym}
use Rattle.sp_query.specs.Grammar as g
use Rattle.sp_query.specs.Same.{SameIdent}
use Rattle.sp_syntax.specs.Printing.{Prints}
use Rattle.sp_syntax.proofs.Adding.{on_ok, adds_text}
use Rattle.sp_syntax.proofs.Clauses as l
use Rattle.sp_syntax.proofs.names.name.Goals as goal

pub returns : goal.returns
returns c = on_ok _ _ _ (λ e. adds_text _ _ _ (Prints g.Name SameIdent c.args.ident.now) e (subst (λ z. Prints g.Name SameIdent c.args.ident.now (z ++ 32 ∷ [])) (sym c.as_str.ensures) (l.prints_ident c.args.ident.now))) c.token.ensures
