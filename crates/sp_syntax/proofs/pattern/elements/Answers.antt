use Rattle.std.proofs.Common.{◌∷◌, ◌++◌, [], codes, refl}
use Rattle.sp_lex.specs.declared.token.Word.TheVariants as w
use Rattle.sp_query.specs.declared.mark.Mark.TheVariants as m
use Rattle.sp_query.specs.Grammar as g
use Rattle.sp_query.specs.Same.{Pairwise, SameElement}
use Rattle.sp_syntax.specs.Printing.{Prints}
use Rattle.sp_syntax.proofs.Adding.{on_ok, adds_behind, adds_between}
use Rattle.sp_syntax.proofs.Lists.{prints_one_or_more}
use Rattle.sp_syntax.proofs.Clauses as l
use Rattle.sp_syntax.proofs.pattern.elements.Goals as goal

pub returns : goal.returns
returns c =
    let L = g.MoreOf (g.Alone g.Element) g.Element in
    on_ok _ _ _ (λ e. adds_behind _ _ _ (codes "PATTERN" ++ 32 ∷ []) (Prints (g.Between m.LeftRound L m.RightRound) (Pairwise SameElement) c.args.elements.now) (Prints g.Elements (Pairwise SameElement) c.args.elements.now) c.in_ok-token.ensures
    (adds_between _ _ _ _ (codes "(" ++ 32 ∷ []) (codes ")" ++ 32 ∷ []) _ _ c.in_ok-token-2.ensures c.in_ok-all_elements.ensures e (λ y p. l.prints_round L (Pairwise SameElement) c.args.elements.now y (prints_one_or_more g.Element SameElement c.args.elements.now y p)))
    (λ y p. l.prints_behind (g.Between m.LeftRound L m.RightRound) (Pairwise SameElement) c.args.elements.now y w.Pattern m.Pattern refl p)) c.token-3.ensures
