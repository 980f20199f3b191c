use Rattle.std.proofs.Common.{[], sym, ◌∙◌, ap}
use Rattle.sp_query.specs.Trees.{tree_at}
use Rattle.sp_query.specs.declared.tree.Node.TheVariants as n
use Rattle.sp_parse.proofs.Reading.{exit}
use Rattle.sp_parse.proofs.Operands.{named_stops, named_alone, named_stops_later, named_found, two_shorter}
use Rattle.sp_parse.proofs.expression.named.Goals as goal

pub returns-in_err-first : goal.returns-in_err-first
returns-in_err-first c room = exit _ _ room _ _ _ _ c.from_residual.ensures.1 (named_stops room _ _ c.in_err-first.ensures)

pub returns-then-not-begins : goal.returns-then-not-begins
returns-then-not-begins c room = named_alone room _ _ _ _ c.in_ok-first.ensures (sym c.begins.ensures ∙ c.if-not-begins.true)
    (λ front e. c.leaf.ensures ∙ ap (tree_at (n.Own c.in_ok-first.first) []) (c.span_of.ensures front e))

pub returns-in_err-second : goal.returns-in_err-second
returns-in_err-second c room = exit _ _ room _ _ _ _ c.from_residual-in_err-second.ensures.1 (named_stops_later room _ _ _ _ c.in_ok-first.ensures (sym c.begins.ensures ∙ c.if-not-begins.false) (c.in_err-second.ensures room))

pub span_of-requires-2 : goal.span_of-requires-2
span_of-requires-2 c = two_shorter 0 _ _ _ _ _ c.in_ok-first.ensures (c.in_ok-second.ensures 0)

pub returns : goal.returns
returns c room = named_found room _ _ _ _ _ _ c.in_ok-first.ensures (sym c.begins.ensures ∙ c.if-not-begins.false) (c.in_ok-second.ensures room)
    (λ front e. c.leaf-2.ensures ∙ ap (tree_at (n.Earlier c.in_ok-first.first c.in_ok-second.second) []) (c.span_of-2.ensures front e))
