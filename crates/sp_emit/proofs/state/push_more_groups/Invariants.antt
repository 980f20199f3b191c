use Rattle.std.proofs.Common.{◌≡◌, ◌++◌, map, take}
use Rattle.std.specs.Prelude.{codes, string_bytes}
use Rattle.std.specs.List.{flat_map}
use Rattle.sp_emit.specs.StateLines.{group_text}
use Rattle.sp_group.specs.Seen.{seen_group}
use Rattle.sp_emit.proofs.state.push_more_groups.Given as goal

abbrev pub invariant-loop-group : goal.invariant-loop-group
invariant-loop-group l = string_bytes l.out ≡ string_bytes l.initial.out ++ flat_map (λ group. codes ";" ++ group_text group) (map seen_group (take l.group-index l.groups))
