use Rattle.sp_parts.specs.Stretches.{windows_of}
use Rattle.sp_parts.proofs.Stretching.{Going}
use Rattle.sp_parts.proofs.stretch.stretch_end.Given as goal

abbrev pub invariant-loop-place : goal.invariant-loop-place
invariant-loop-place l = Going (windows_of l.windows l.events) l.begin l.place l.last
