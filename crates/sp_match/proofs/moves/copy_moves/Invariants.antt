use Rattle.std.proofs.Common.{◌≡◌, map, take}
use Rattle.sp_match.specs.public.Seen.{seen}
use Rattle.sp_match.proofs.moves.copy_moves.Given as goal

abbrev pub invariant-loop-one : goal.invariant-loop-one
invariant-loop-one l = map seen l.moves.items ≡ map seen (take l.one-index l.list)
