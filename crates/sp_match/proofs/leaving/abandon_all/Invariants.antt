use Rattle.std.proofs.Common.{◌≡◌, ◌++◌, map, take}
use Rattle.sp_match.specs.inside.Kept.{kept}
use Rattle.sp_match.specs.inside.Effects.{leaving_told}
use Rattle.sp_match.specs.public.Seen.{seen}
use Rattle.sp_match.proofs.leaving.abandon_all.Given as goal

abbrev pub invariant-loop-run : goal.invariant-loop-run
invariant-loop-run l = map seen l.list.items ≡ map seen l.initial.list.items ++ map leaving_told (map kept (take l.run-index l.runs))
