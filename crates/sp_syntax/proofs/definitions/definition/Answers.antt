use Rattle.std.proofs.Common.{ℕ, ◌∷◌, ◌++◌, [], codes, refl}
use Rattle.sp_lex.specs.declared.token.Word.TheVariants as w
use Rattle.sp_query.specs.declared.mark.Mark.TheVariants as m
use Rattle.sp_query.specs.Grammar as g
use Rattle.sp_query.specs.Same.{SameTree, SameIdent, SameDefinition}
use Rattle.sp_syntax.specs.Printing.{Prints}
use Rattle.sp_syntax.proofs.Adding.{on_ok, adds_infix}
use Rattle.sp_syntax.proofs.Speaking.{prints_both}
use Rattle.sp_syntax.proofs.Clauses as l
use Rattle.sp_syntax.proofs.definitions.definition.Goals as goal

pub returns : goal.returns
returns c = on_ok _ _ _ (λ e. adds_infix _ _ _ _ (codes "AS" ++ 32 ∷ []) _ _ (λ x. (room : ℕ) → Prints (g.Definition room) SameDefinition c.args.definition.now x) c.in_ok-name.ensures c.in_ok-token.ensures e
    (λ y z p q room. prints_both g.Name (g.After m.As (g.Pred room)) SameIdent SameTree c.args.definition.now y ((codes "AS" ++ 32 ∷ []) ++ z) p (l.prints_behind (g.Pred room) SameTree c.args.definition.now.1 z w.As m.As refl (q room)))) c.predicate.ensures
