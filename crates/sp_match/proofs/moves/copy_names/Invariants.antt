use Rattle.std.proofs.Common.{◌≡◌, map, take}
use Rattle.sp_match.specs.public.Seen.{seen_name}
use Rattle.sp_match.proofs.moves.copy_names.Given as goal

abbrev pub invariant-loop-name : goal.invariant-loop-name
invariant-loop-name l = map seen_name l.copies.items ≡ map seen_name (take l.name-index l.names)
