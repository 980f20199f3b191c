use Rattle.std.proofs.Common.{◌≡◌, [], map}
use Rattle.std.specs.List.{range_with_len}
use Rattle.sp_match.specs.public.Seen.{seen_name}
use Rattle.sp_match.proofs.completing.no_numbers.Given as goal

abbrev pub invariant-loop-name : goal.invariant-loop-name
invariant-loop-name l = map seen_name l.lists.items ≡ map (λ name. (name, [])) (range_with_len 0 l.name)
