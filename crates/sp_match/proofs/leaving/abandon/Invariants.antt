use Rattle.std.proofs.Common.{◌≡◌, ◌++◌, map}
use Rattle.sp_match.specs.inside.Kept.{kept}
use Rattle.sp_match.specs.public.Seen.{seen}
use Rattle.sp_match.proofs.RunsAfterUse.{after_use_to, told_to}
use Rattle.sp_match.proofs.leaving.abandon.Given as goal

abbrev pub invariant-loop-i : goal.invariant-loop-i
invariant-loop-i l = record {
  runs : map kept l.runs ≡ after_use_to l.used.list l.i (map kept l.initial.runs);
  told : map seen l.list.items ≡ map seen l.initial.list.items ++ told_to l.used.list l.i (map kept l.initial.runs);
}
