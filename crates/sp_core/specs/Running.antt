-- A core as its callers see it, and what a step does to it.
use Rattle.std.specs.Prelude.{◌≡◌, ℕ, List, [], ◌∷◌, ◌++◌, Option, None, replicate}
use Rattle.std.specs.List.{flat_map}
use Rattle.sp_plan.specs.declared.plan.Plan.{Plan}
use Rattle.sp_group.specs.declared.refusal.Refusal.{Refusal}
use Rattle.sp_group.specs.declared.step.Entry.{Entry}
use Rattle.sp_group.specs.declared.step.Step.{Step}
use Rattle.sp_group.specs.Machine.{Machine, opening}
use Rattle.sp_group.specs.Refusing.{refusal}
use Rattle.sp_group.specs.Effects.{effect}

-- the plan; how many versions may be live; the state of the machine; and which steps were done
pub record Running : Type 0 where
  pub plan : Plan
  pub bound : ℕ
  pub machine : Machine
  pub journal : List Entry

-- a core before its first step
abbrev pub begun : Plan → ℕ → Running
begun plan bound = record { plan = plan; bound = bound; machine = opening; journal = [] }

-- why a core refuses a step, if it does
abbrev pub refused : Running → Step → Option Refusal
refused c x = refusal c.plan c.bound c.machine x

-- the entry of a step that was done once
abbrev pub once : Step → Entry
once x = record { step = x; times = 1 }

-- the core after a step that it does not refuse: the machine has done it, and the journal is one entry longer
abbrev pub after : Running → Step → Running
after c x = record c { machine = effect c.plan c.machine x; journal = c.journal ++ once x ∷ [] }

-- a step was done, and was not to be refused
abbrev pub IsDone : Step → Running → Running → Type 0
IsDone x old new = (refused old x ≡ None) × (new ≡ after old x)

-- the steps of a journal, one after another
abbrev pub flat : List Entry → List Step
flat journal = flat_map (λ entry. replicate entry.times entry.step) journal
