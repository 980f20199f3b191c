use Rattle.std.proofs.Common.{rules, ◌≡◌, ◌++◌, [], string_bytes, subst, sym, ap, ◌∙◌}
use Rattle.sp_query.specs.Queries.{IsQuery}
use Rattle.sp_syntax.proofs.Clauses as l
use Rattle.sp_syntax.proofs.printing.print.Goals as goal

pub returns : goal.returns
returns c =
    let a = c.in_ok-clauses.ensures in
    let is : string_bytes c.clauses.new.out ≡ a.added = (let empty : string_bytes c.new-out.result ≡ [] = search rules in a.is ∙ ap (λ z. z ++ a.added) empty) in
    let h = c.requires in
    let q = l.query_again h.0 a.added c.args.query.now h.1 a.so in
    (q.0, subst (λ z. IsQuery z q.0) (sym is) q.1, q.2)
