use Rattle.std.proofs.Common.{sym, ◌∙◌}
use Rattle.sp_query.specs.Grammar.{Name}
use Rattle.sp_parse.specs.Reads.{never}
use Rattle.sp_parse.proofs.Reading.{exit, read_found, read_stops}
use Rattle.sp_parse.proofs.PatternClause as p
use Rattle.sp_parse.proofs.pattern.names.Goals as goal

pub returns-in_err-list : goal.returns-in_err-list
returns-in_err-list c room = exit _ _ room _ _ _ _ c.from_residual.ensures.1 (p.names_first_stops room _ _ (read_stops (λ _. Name) never room _ _ _ (c.ident.ensures room) c.in_err-list.ensures))

pub returns-in_err-list-2 : goal.returns-in_err-list-2
returns-in_err-list-2 c room = exit _ _ room _ _ _ _ c.from_residual-in_err-list-2.ensures.1 (p.names_second_stops room _ _ _ _ (read_found (λ _. Name) never room _ _ _ _ (c.ident.ensures room) c.in_ok-list.ensures.1)
    (read_stops (λ _. Name) never room _ _ _ (c.ident-2.ensures room) c.in_err-list-2.ensures))

pub each-init : goal.each-init
each-init c room = p.names_set_out room _ _ _ _ _ _ _ _ c.new.ensures c.in_ok-list.ensures.2 c.in_ok-list-2.ensures.2 (read_found (λ _. Name) never room _ _ _ _ (c.ident.ensures room) c.in_ok-list.ensures.1)
    (read_found (λ _. Name) never room _ _ _ _ (c.ident-2.ensures room) c.in_ok-list-2.ensures.1)

pub returns-in_err-list-3 : goal.returns-in_err-list-3
returns-in_err-list-3 c room = exit _ _ room _ _ _ _ c.from_residual-in_err-list-3.ensures.1 (p.names_next_stops room _ _ _ _ (sym c.begins_name.ensures ∙ c.each-test.true) (c.each.invariant room)
    (read_stops (λ _. Name) never room _ _ _ (c.ident-in-each.ensures room) c.in_err-list-3.ensures))

pub each-smaller : goal.each-smaller
each-smaller c = p.name_shorter 0 _ _ _ (read_found (λ _. Name) never 0 _ _ _ _ (c.ident-in-each.ensures 0) c.in_ok-list-3.ensures.1)

pub each-preserved : goal.each-preserved
each-preserved c room = p.names_go_on room _ _ _ _ _ _ c.in_ok-list-3.ensures.2 (sym c.begins_name.ensures ∙ c.each-test.true) (c.each.invariant room) (read_found (λ _. Name) never room _ _ _ _ (c.ident-in-each.ensures room) c.in_ok-list-3.ensures.1)

pub returns : goal.returns
returns c room = p.names_arrive room _ _ _ (sym c.begins_name.ensures ∙ c.each-test.false) (c.each.invariant room)
