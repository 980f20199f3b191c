use Rattle.std.proofs.Common.{◌+◌, ◌*◌, length}
use Rattle.sp_query.specs.Grammar.{kernel, both_hold, one_holds, joined, Atom, ConjOf}
use Rattle.sp_parse.specs.Follow.{after_sum, after_conj}
use Rattle.sp_parse.proofs.Repeats.{Grouping}
use Rattle.sp_parse.proofs.predicate.+atom.Given as goal

-- As for factors.
abbrev pub decreases-squared : goal.decreases-squared
decreases-squared l = l.room * 4 + 3

abbrev pub decreases-atom : goal.decreases-atom
decreases-atom l = l.room * 4

abbrev pub decreases-denied : goal.decreases-denied
decreases-denied l = l.room * 4 + 1

abbrev pub decreases-pred : goal.decreases-pred
decreases-pred l = l.room * 4 + 2

abbrev pub decreases-conj : goal.decreases-conj
decreases-conj l = l.room * 4 + 1

abbrev pub invariant-pred-loop-node : goal.invariant-pred-loop-node
invariant-pred-loop-node l = Grouping (kernel one_holds) (λ n. ConjOf (Atom n)) joined after_conj l.room l.tokens l.tree l.rest

abbrev pub decreases-pred-loop-node : goal.decreases-pred-loop-node
decreases-pred-loop-node l = length l.rest

abbrev pub invariant-conj-loop-node : goal.invariant-conj-loop-node
invariant-conj-loop-node l = Grouping (kernel both_hold) Atom joined after_sum l.room l.tokens l.tree l.rest

abbrev pub decreases-conj-loop-node : goal.decreases-conj-loop-node
decreases-conj-loop-node l = length l.rest
