use Rattle.std.proofs.Common.{◌≡◌, map, length, take}
use Rattle.std.specs.List.{range_with_len}
use Rattle.sp_match.specs.public.Seen.{seen_name}
use Rattle.sp_match.proofs.NumbersGathered.{named_under}
use Rattle.sp_match.proofs.completing.all_numbers.Given as goal

abbrev pub invariant-loop-name : goal.invariant-loop-name
invariant-loop-name l = map seen_name l.lists.items ≡ map (named_under (take l.name-index l.run.bound.items)) (range_with_len 0 (length l.plan.names))
