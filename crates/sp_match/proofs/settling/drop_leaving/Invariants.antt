use Rattle.std.proofs.Common.{◌≡◌, length}
use Rattle.std.specs.List.{filter}
use Rattle.sp_match.specs.inside.Kept.{stays}
use Rattle.sp_match.proofs.settling.drop_leaving.Given as goal

abbrev pub invariant-loop-run : goal.invariant-loop-run
invariant-loop-run l = filter (λ run. stays run.fate) l.runs.items ≡ filter (λ run. stays run.fate) l.initial.runs.items

abbrev pub decreases-loop-run : goal.decreases-loop-run
decreases-loop-run l = length l.runs.items
