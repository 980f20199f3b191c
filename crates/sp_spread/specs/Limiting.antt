-- What a journal never goes beyond: how many tickets are out, and how many events a lease asks for.
use Rattle.std.specs.Prelude.{◌≡◌, ℕ, ◌+◌, ◌≤◌, List, ◌∷◌, ◌++◌, replicate}
use Rattle.std.specs.List.{All}
use Rattle.sp_plan.specs.declared.plan.Plan.{Plan}
use Rattle.sp_group.specs.declared.step.Entry.{Entry}
use Rattle.sp_group.specs.declared.step.Step.{Step}
use Rattle.sp_group.specs.declared.step.Step.TheVariants as s
use Rattle.sp_group.specs.Steps.{out_count, replay, steps}

-- In no state that a journal passes, be it between two entries or between the steps of one, are more than n + 1 tickets of live versions out.
abbrev pub NeverMore : Plan → ℕ → ℕ → List Entry → Type 0
NeverMore q bound n journal =
    (before after : List Entry) (entry : Entry) (times : ℕ) → journal ≡ before ++ entry ∷ after → times ≤ entry.times
    → out_count (steps q bound (replay q bound before) (replicate times entry.step)) ≤ n + 1

-- how many events a step asks for, none where it is no lease
abbrev pub asked_by : Step → ℕ
asked_by (s.Lease id n) = n
asked_by (s.Feed e) = 0
asked_by s.End = 0
asked_by (s.Spawn parent label) = 0
asked_by (s.Event n) = 0
asked_by (s.Return n) = 0
asked_by (s.Roll id) = 0
asked_by s.Finish = 0

-- no lease of a journal asks for more events
abbrev pub AsksAtMost : ℕ → List Entry → Type 0
AsksAtMost most journal = All (λ entry. asked_by entry.step ≤ most) journal
