use Rattle.std.proofs.Common.{◌≡◌, ℕ, ◌+◌, ◌<◌, take, map}
use Rattle.sp_chance.specs.Matrices.{at}
use Rattle.sp_chance.specs.Counted.{tally, decoded}
use Rattle.sp_chance.proofs.moves.count_all.Given as goal

abbrev pub invariant-loop-code : goal.invariant-loop-code
invariant-loop-code l =
    (i j : ℕ) → i < 33 → j < 33 → at l.counts i j ≡ at l.initial.counts i j + tally (take l.code-index (map decoded l.codes)) i j
