use Rattle.std.proofs.Common.{◌≡◌, ◌++◌, not, length, take, drop}
use Rattle.std.specs.Prelude.{filter}
use Rattle.sp_plan.specs.Runs.{holds_one}
use Rattle.sp_scan.proofs.turns.drop_holders.Given as goal

abbrev pub invariant-loop-turn : goal.invariant-loop-turn
invariant-loop-turn l =
    (l.runs.items ≡ filter (λ run. not (holds_one l.numbers.list run.pairs)) (take l._turn l.initial.runs.items) ++ drop l._turn l.initial.runs.items)
    × (l.left ≡ length (filter (λ run. not (holds_one l.numbers.list run.pairs)) (take l._turn l.initial.runs.items)))
