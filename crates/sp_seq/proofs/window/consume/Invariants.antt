use Rattle.std.proofs.Common.{ℕ, List, ◌++◌, take}
use Rattle.std.specs.List.{flat_map}
use Rattle.sp_seq.specs.Marked.{IsMarked}
use Rattle.sp_seq.proofs.window.consume.Given as goal

abbrev pub invariant-loop-one : goal.invariant-loop-one
invariant-loop-one l = (before : List ℕ) → IsMarked before l.initial.consumed → IsMarked (before ++ flat_map (λ one. one.used) (take l.one-index l.matches)) l.consumed
