use Rattle.std.proofs.Common.{◌++◌, [], arith, subst, sym}
use Rattle.sp_query.specs.Grammar as g
use Rattle.sp_query.specs.Same.{Pairwise, SameColumn}
use Rattle.sp_syntax.specs.Printing.{Prints}
use Rattle.sp_syntax.proofs.Adding.{on_ok, adds_nothing, adds_both, first_and_rest}
use Rattle.sp_syntax.proofs.Lists.{prints_list, prints_no_list}
use Rattle.sp_syntax.proofs.Clauses as l
use Rattle.sp_syntax.proofs.columns.listed_columns.Goals as goal

pub returns-in-empty : goal.returns-in-empty
returns-in-empty c = adds_nothing _ _ (subst (λ z. Prints (g.ListOf g.Column) (Pairwise SameColumn) z []) (sym (l.nothing_in c.args.columns.now (omega arith))) (prints_no_list g.Column SameColumn))

pub returns-in_ok-column-in-len1-up : goal.returns-in_ok-column-in-len1-up
returns-in_ok-column-in-len1-up c =
    let xs = c.args.columns.now in
    on_ok _ _ _ (λ e. adds_both _ _ _ _ _ (Prints (g.ListOf g.Column) (Pairwise SameColumn) xs) c.in_ok-column-in-len1-up.ensures e
    (λ x y p q. subst (λ z. Prints (g.ListOf g.Column) (Pairwise SameColumn) z (x ++ y)) (sym (first_and_rest xs c.first-item.result c.in-len1-up.len_at_least c.first-item.is)) (prints_list g.Column SameColumn _ _ x y p q))) c.more_columns.ensures
