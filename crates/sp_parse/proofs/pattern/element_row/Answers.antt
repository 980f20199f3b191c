use Rattle.std.proofs.Common.{sym, ◌∙◌}
use Rattle.sp_query.specs.Grammar.{Alone, Element}
use Rattle.sp_parse.specs.Follow.{element_head}
use Rattle.sp_parse.proofs.Reading.{exit, read_found, read_stops}
use Rattle.sp_parse.proofs.Forms as f
use Rattle.sp_parse.proofs.PatternClause as p
use Rattle.sp_parse.proofs.pattern.element_row.Goals as goal

pub returns-in_err-list : goal.returns-in_err-list
returns-in_err-list c room = exit _ _ room _ _ _ _ c.from_residual.ensures.1 (p.row_first_stops room _ _ (read_stops (λ _. Element) p.after_single room _ _ _ (c.element.ensures room) c.in_err-list.ensures))

pub each-init : goal.each-init
each-init c room = p.row_sets_out room _ _ _ _ _ c.new.ensures c.in_ok-list.ensures.2 (read_found (λ _. Element) p.after_single room _ _ _ _ (c.element.ensures room) c.in_ok-list.ensures.1)

pub returns-in_err-list-2 : goal.returns-in_err-list-2
returns-in_err-list-2 c room = exit _ _ room _ _ _ _ c.from_residual-in_err-list-2.ensures.1 (f.more_next_stops (λ _. Alone Element) (λ _. Element) p.after_single element_head p.element_begins p.row_apart room _ _ _ _ (sym c.begins_element.ensures ∙ c.each-test.true) (c.each.invariant room)
    (read_stops (λ _. Element) p.after_single room _ _ _ (c.element-in-each.ensures room) c.in_err-list-2.ensures))

pub each-smaller : goal.each-smaller
each-smaller c = p.element_shorter 0 _ _ _ (read_found (λ _. Element) p.after_single 0 _ _ _ _ (c.element-in-each.ensures 0) c.in_ok-list-2.ensures.1)

pub each-preserved : goal.each-preserved
each-preserved c room = f.more_goes_on (λ _. Alone Element) (λ _. Element) p.after_single element_head p.element_begins p.row_apart room _ _ _ _ _ _ c.in_ok-list-2.ensures.2 (sym c.begins_element.ensures ∙ c.each-test.true) (c.each.invariant room)
    (read_found (λ _. Element) p.after_single room _ _ _ _ (c.element-in-each.ensures room) c.in_ok-list-2.ensures.1)

pub returns : goal.returns
returns c room = f.more_arrives (λ _. Alone Element) (λ _. Element) p.after_single element_head p.element_begins p.row_apart room _ _ _ (sym c.begins_element.ensures ∙ c.each-test.false) (c.each.invariant room)
