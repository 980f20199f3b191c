use Rattle.std.proofs.Common.{◌≡◌}
use Rattle.sp_pick.specs.Paths.{climbed}
use Rattle.sp_pick.proofs.surviving.ancestor.Given as goal

abbrev pub invariant-loop : goal.invariant-loop
invariant-loop g l = l.at ≡ climbed l.tree.entries l.counter l.id
