use Rattle.std.proofs.Common.{◌≡◌, map, take}
use Rattle.std.specs.List.{filter_map}
use Rattle.sp_group.specs.Seen.{seen_version}
use Rattle.sp_core.specs.Printing.{line_at}
use Rattle.sp_core.proofs.state.version_lines.Given as goal

abbrev pub invariant-loop-id : goal.invariant-loop-id
invariant-loop-id l = map seen_version l.lines.items ≡ filter_map (line_at l.tree) (take l.id-index l.id-items)
