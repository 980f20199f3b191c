use Rattle.std.proofs.Common.{◌≡◌, map}
use Rattle.sp_match.specs.public.Seen.{seen_name}
use Rattle.sp_match.proofs.found.as_bound_places.Given as goal

abbrev pub invariant-loop-name : goal.invariant-loop-name
invariant-loop-name l = l.list.items ≡ map seen_name l.yielded
