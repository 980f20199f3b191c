use Rattle.std.proofs.Common.{◌≡◌, take}
use Rattle.sp_top.proofs.copies.copy_match.Given as goal

abbrev pub invariant-loop-name : goal.invariant-loop-name
invariant-loop-name l = l.bound.items ≡ take l.name-index l.found.bound
