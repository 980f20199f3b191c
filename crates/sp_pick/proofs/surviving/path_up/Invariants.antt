use Rattle.std.proofs.Common.{◌≡◌, ℕ, ◌<◌, get_or, length}
use Rattle.sp_pick.specs.Paths.{climbed}
use Rattle.sp_pick.proofs.surviving.path_up.Given as goal

abbrev pub invariant-loop-place : goal.invariant-loop-place
invariant-loop-place g l =
    (l.at ≡ climbed l.tree.entries l.place l.id)
    × (length l.path ≡ 64)
    × ((k : ℕ) → k < l.place → get_or l.path k 0 ≡ climbed l.tree.entries k l.id)
