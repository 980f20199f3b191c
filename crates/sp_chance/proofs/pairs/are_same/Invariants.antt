use Rattle.std.proofs.Common.{◌≡◌, ℕ, ◌<◌, IsTrue, get_or}
use Rattle.sp_chance.proofs.pairs.are_same.Given as goal

abbrev pub invariant-loop-index : goal.invariant-loop-index
invariant-loop-index l = IsTrue l.same → (n : ℕ) → n < l.index → get_or l.left n 0 ≡ get_or l.right n 0
