use Rattle.std.proofs.Common.{take, map}
use Rattle.sp_compile.specs.Gathers.{Gathers}
use Rattle.sp_compile.proofs.texts.texts.Given as goal

abbrev pub invariant-loop-define : goal.invariant-loop-define
invariant-loop-define l = Gathers (map (λ define. define.1) (take l.define-index l.define-items)) l.initial.texts.items l.texts.items
