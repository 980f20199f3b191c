use Rattle.std.proofs.Common.{◌∷◌, ◌++◌, [], codes, refl}
use Rattle.sp_lex.specs.declared.token.Word.TheVariants as w
use Rattle.sp_query.specs.declared.mark.Mark.TheVariants as m
use Rattle.sp_query.specs.Grammar as g
use Rattle.sp_query.specs.Same.{Pairwise, SameColumn}
use Rattle.sp_syntax.specs.Printing.{Prints}
use Rattle.sp_syntax.proofs.Adding.{on_ok, adds_behind, adds_between}
use Rattle.sp_syntax.proofs.Clauses as l
use Rattle.sp_syntax.proofs.columns.columns.Goals as goal

pub returns : goal.returns
returns c = on_ok _ _ _ (λ e. adds_behind _ _ _ (codes "EVENT" ++ 32 ∷ []) (Prints (g.Between m.LeftRound (g.ListOf g.Column) m.RightRound) (Pairwise SameColumn) c.args.columns.now) (Prints g.Columns (Pairwise SameColumn) c.args.columns.now) c.in_ok-token.ensures
    (adds_between _ _ _ _ (codes "(" ++ 32 ∷ []) (codes ")" ++ 32 ∷ []) _ _ c.in_ok-token-2.ensures c.in_ok-listed_columns.ensures e (λ y p. l.prints_round (g.ListOf g.Column) (Pairwise SameColumn) c.args.columns.now y p))
    (λ y p. l.prints_behind (g.Between m.LeftRound (g.ListOf g.Column) m.RightRound) (Pairwise SameColumn) c.args.columns.now y w.Event m.Event refl p)) c.token-3.ensures
