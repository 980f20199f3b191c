use Rattle.std.proofs.Common.{◌+◌, ◌*◌, length}
use Rattle.sp_query.specs.Grammar.{kernel, times, plus, joined, Factor, TermOf}
use Rattle.sp_parse.specs.Follow.{after_factor, after_term}
use Rattle.sp_parse.proofs.Repeats.{Grouping}
use Rattle.sp_parse.proofs.expression.+factor.Given as goal

-- Each level less is four steps, since a sum reads products and a product factors.
abbrev pub decreases-enclosed : goal.decreases-enclosed
decreases-enclosed l = l.room * 4 + 3

abbrev pub decreases-factor : goal.decreases-factor
decreases-factor l = l.room * 4

abbrev pub decreases-negated : goal.decreases-negated
decreases-negated l = l.room * 4 + 1

abbrev pub decreases-sum : goal.decreases-sum
decreases-sum l = l.room * 4 + 2

abbrev pub decreases-term : goal.decreases-term
decreases-term l = l.room * 4 + 1

abbrev pub invariant-sum-loop-node : goal.invariant-sum-loop-node
invariant-sum-loop-node l = Grouping (kernel plus) (λ n. TermOf (Factor n)) joined after_term l.room l.tokens l.tree l.rest

abbrev pub decreases-sum-loop-node : goal.decreases-sum-loop-node
decreases-sum-loop-node l = length l.rest

abbrev pub invariant-term-loop-node : goal.invariant-term-loop-node
invariant-term-loop-node l = Grouping (kernel times) Factor joined after_factor l.room l.tokens l.tree l.rest

abbrev pub decreases-term-loop-node : goal.decreases-term-loop-node
decreases-term-loop-node l = length l.rest
