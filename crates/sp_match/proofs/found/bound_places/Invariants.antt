use Rattle.std.proofs.Common.{◌≡◌, map, take}
use Rattle.sp_match.specs.public.Seen.{seen_name}
use Rattle.sp_match.proofs.found.bound_places.Given as goal

abbrev pub invariant-loop-name : goal.invariant-loop-name
invariant-loop-name l = l.list.items ≡ map seen_name (take l.name-index l.bound)
