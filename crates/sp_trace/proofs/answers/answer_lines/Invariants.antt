use Rattle.std.proofs.Common.{◌≡◌, ◌++◌, map, take}
use Rattle.std.specs.Prelude.{string_bytes}
use Rattle.sp_plan.specs.Lines.{line}
use Rattle.sp_trace.proofs.answers.answer_lines.Given as goal

abbrev pub invariant-loop-found : goal.invariant-loop-found
invariant-loop-found l = map string_bytes l.lines.items ≡ map string_bytes l.initial.lines.items ++ map (line l.plan) (take l.found-index l.matches)
