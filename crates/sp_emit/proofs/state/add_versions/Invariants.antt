use Rattle.std.proofs.Common.{◌≡◌, ◌++◌, map, take}
use Rattle.std.specs.Prelude.{string_bytes}
use Rattle.sp_emit.specs.StateLines.{version_line}
use Rattle.sp_group.specs.Seen.{seen_version}
use Rattle.sp_emit.proofs.state.add_versions.Given as goal

abbrev pub invariant-loop-version : goal.invariant-loop-version
invariant-loop-version l = map string_bytes l.lines.items ≡ map string_bytes l.initial.lines.items ++ map version_line (map seen_version (take l.version-index l.versions))
