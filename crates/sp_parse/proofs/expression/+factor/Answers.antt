use Rattle.std.proofs.Common.{[], ◌∷◌, sym, ◌∙◌, ap}
use Rattle.sp_query.specs.Trees.{tree_at}
use Rattle.sp_query.specs.Grammar.{kernel, times, plus, joined, Factor, TermOf, Sum}
use Rattle.sp_query.specs.declared.mark.Mark.TheVariants as m
use Rattle.sp_parse.specs.Follow.{after_factor, after_term, after_sum}
use Rattle.sp_parse.proofs.Nested as d
use Rattle.sp_parse.proofs.Levels as l
use Rattle.sp_parse.proofs.Forms as o
use Rattle.sp_query.specs.declared.tree.Node.TheVariants as n
use Rattle.sp_parse.proofs.Repeats as g
use Rattle.sp_parse.proofs.Reading.{exit, read_found, read_stops}
use Rattle.sp_parse.proofs.Factors as f
use Rattle.sp_parse.proofs.expression.+factor.Goals as goal

pub enclosed-returns-in_err-rest : goal.enclosed-returns-in_err-rest
enclosed-returns-in_err-rest t c = exit _ _ _ _ _ _ _ c.from_residual.ensures.1 (o.between_first_stops m.LeftRound Sum m.RightRound after_sum f.sum_some f.round_out c.args.room _ _ c.in_err-rest.ensures)

pub enclosed-returns : goal.enclosed-returns
enclosed-returns t c = o.between_closes m.LeftRound Sum m.RightRound after_sum f.sum_some f.round_out c.args.room _ _ _ _ c.in_ok-rest.ensures c.sum.ensures c.closed.ensures

pub factor-returns-then-room-eq0 : goal.factor-returns-then-room-eq0
factor-returns-then-room-eq0 t c = f.full_minus _ _ c.if-room-eq0.true (sym c.begins.ensures ∙ c.if-begins.true)

pub factor-returns-then-begins : goal.factor-returns-then-begins
factor-returns-then-begins t c = f.negated_at _ _ _ _ c.if-room-eq0.false (sym c.begins.ensures ∙ c.if-begins.true) c.negated.ensures

pub factor-returns-then-room-eq0-2 : goal.factor-returns-then-room-eq0-2
factor-returns-then-room-eq0-2 t c = f.full_round _ _ c.if-room-eq0-2.true (sym c.begins-2.ensures ∙ c.if-begins-2.true)

pub factor-returns-then-begins-2 : goal.factor-returns-then-begins-2
factor-returns-then-begins-2 t c = f.enclosed_at _ _ _ _ c.if-room-eq0-2.false (sym c.begins-2.ensures ∙ c.if-begins-2.true) c.enclosed.ensures

pub factor-returns : goal.factor-returns
factor-returns t c = f.operand_at _ _ _ c.args.room (sym c.begins.ensures ∙ c.if-begins.false) (sym c.begins-2.ensures ∙ c.if-begins-2.false) (c.operand.ensures c.args.room)

pub negated-returns-in_err-rest : goal.negated-returns-in_err-rest
negated-returns-in_err-rest t c = exit _ _ _ _ _ _ _ c.from_residual.ensures.1 (d.prefix_stops m.Minus Factor after_factor f.factor_some (l.applied n.Minus) c.args.room _ _ c.in_err-rest.ensures)

pub negated-returns-in_err-part : goal.negated-returns-in_err-part
negated-returns-in_err-part t c = exit _ _ _ _ _ _ _ c.from_residual-in_err-part.ensures.1 (d.prefix_stops_later m.Minus Factor after_factor f.factor_some (l.applied n.Minus) c.args.room _ _ _ c.in_ok-rest.ensures c.in_err-part.ensures)

pub negated-returns : goal.negated-returns
negated-returns t c = d.prefix_found m.Minus Factor after_factor f.factor_some (l.applied n.Minus) c.args.room _ _ _ _ _ c.in_ok-rest.ensures c.in_ok-part.ensures
    (λ front e. c.in_ok-tree.ensures ∙ ap (tree_at n.Minus (c.in_ok-part.part ∷ [])) (c.span_of.ensures front e))

pub sum-returns-in_err-tree : goal.sum-returns-in_err-tree
sum-returns-in_err-tree t c = exit _ _ _ _ _ _ _ c.from_residual.ensures.1
    (g.start_stops (kernel plus) (λ n. TermOf (Factor n)) joined after_term f.plus_apart c.args.room _ _ c.in_err-tree.ensures)

pub sum-loop-node-init : goal.sum-loop-node-init
sum-loop-node-init t c = g.starts (kernel plus) (λ n. TermOf (Factor n)) joined after_term f.plus_apart c.args.room _ _ _ c.in_ok-tree.ensures

pub sum-joined-requires : goal.sum-joined-requires
sum-joined-requires t c = g.step_shortens (kernel plus) (λ n. TermOf (Factor n)) joined after_term f.plus_apart c.args.room _ _ _ _ _ _ c.in-Some.ensures c.loop-node.invariant c.term-in-Some.ensures

pub sum-returns-in_err-tree-2 : goal.sum-returns-in_err-tree-2
sum-returns-in_err-tree-2 t c = exit _ _ _ _ _ _ _ c.from_residual-in_err-tree-2.ensures.1
    (g.step_stops (kernel plus) (λ n. TermOf (Factor n)) joined after_term f.plus_apart c.args.room _ _ _ _ _ _ c.in-Some.ensures c.loop-node.invariant (read_stops (λ n. TermOf (Factor n)) after_term c.args.room _ _ _ c.term-in-Some.ensures c.in_err-tree-2.ensures))

pub sum-loop-node-smaller : goal.sum-loop-node-smaller
sum-loop-node-smaller t c = (g.steps_on (kernel plus) (λ n. TermOf (Factor n)) joined after_term f.plus_apart c.args.room _ _ _ _ _ _ _ c.in-Some.ensures c.loop-node.invariant
    (read_found (λ n. TermOf (Factor n)) after_term c.args.room _ _ _ _ c.term-in-Some.ensures c.in_ok-tree-2.ensures.1)).shorter

pub sum-loop-node-preserved : goal.sum-loop-node-preserved
sum-loop-node-preserved t c = (g.steps_on (kernel plus) (λ n. TermOf (Factor n)) joined after_term f.plus_apart c.args.room _ _ _ _ _ _ _ c.in-Some.ensures c.loop-node.invariant
    (read_found (λ n. TermOf (Factor n)) after_term c.args.room _ _ _ _ c.term-in-Some.ensures c.in_ok-tree-2.ensures.1)).goes _ c.in_ok-tree-2.ensures.2

pub sum-returns : goal.sum-returns
sum-returns t c = g.group_ends (kernel plus) (λ n. TermOf (Factor n)) joined after_term f.plus_apart c.args.room _ _ _ c.in_default.ensures c.loop-node.invariant

pub term-returns-in_err-tree : goal.term-returns-in_err-tree
term-returns-in_err-tree t c = exit _ _ _ _ _ _ _ c.from_residual.ensures.1
    (g.start_stops (kernel times) Factor joined after_factor f.times_apart c.args.room _ _ c.in_err-tree.ensures)

pub term-loop-node-init : goal.term-loop-node-init
term-loop-node-init t c = g.starts (kernel times) Factor joined after_factor f.times_apart c.args.room _ _ _ c.in_ok-tree.ensures

pub term-joined-requires : goal.term-joined-requires
term-joined-requires t c = g.step_shortens (kernel times) Factor joined after_factor f.times_apart c.args.room _ _ _ _ _ _ c.in-Some.ensures c.loop-node.invariant c.factor-in-Some.ensures

pub term-returns-in_err-tree-2 : goal.term-returns-in_err-tree-2
term-returns-in_err-tree-2 t c = exit _ _ _ _ _ _ _ c.from_residual-in_err-tree-2.ensures.1
    (g.step_stops (kernel times) Factor joined after_factor f.times_apart c.args.room _ _ _ _ _ _ c.in-Some.ensures c.loop-node.invariant (read_stops Factor after_factor c.args.room _ _ _ c.factor-in-Some.ensures c.in_err-tree-2.ensures))

pub term-loop-node-smaller : goal.term-loop-node-smaller
term-loop-node-smaller t c = (g.steps_on (kernel times) Factor joined after_factor f.times_apart c.args.room _ _ _ _ _ _ _ c.in-Some.ensures c.loop-node.invariant
    (read_found Factor after_factor c.args.room _ _ _ _ c.factor-in-Some.ensures c.in_ok-tree-2.ensures.1)).shorter

pub term-loop-node-preserved : goal.term-loop-node-preserved
term-loop-node-preserved t c = (g.steps_on (kernel times) Factor joined after_factor f.times_apart c.args.room _ _ _ _ _ _ _ c.in-Some.ensures c.loop-node.invariant
    (read_found Factor after_factor c.args.room _ _ _ _ c.factor-in-Some.ensures c.in_ok-tree-2.ensures.1)).goes _ c.in_ok-tree-2.ensures.2

pub term-returns : goal.term-returns
term-returns t c = g.group_ends (kernel times) Factor joined after_factor f.times_apart c.args.room _ _ _ c.in_default.ensures c.loop-node.invariant
