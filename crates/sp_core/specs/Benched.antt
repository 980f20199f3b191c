-- A bench as its callers see it: a machine whose pieces are held where they are read; and what a step does to it.
use Rattle.std.specs.Prelude.{◌≡◌, ℕ, ◌≤◌, [], ◌∷◌, ◌++◌, Option, Some, None}
use Rattle.sp_base.specs.Limits.{batch_limit}
use Rattle.sp_plan.specs.declared.plan.Plan.{Plan}
use Rattle.sp_plan.specs.WindowNumbers.{Good}
use Rattle.sp_group.specs.declared.refusal.Refusal.{Refusal}
use Rattle.sp_group.specs.declared.step.Step.{Step}
use Rattle.sp_group.specs.declared.step.Step.TheVariants as s
use Rattle.sp_group.specs.Machine.{Machine}
use Rattle.sp_group.specs.Refusing.{refusal}
use Rattle.sp_group.specs.Effects.{effect}
use Rattle.sp_group.specs.Steps.{Answered, answer}
use Rattle.sp_group.specs.Steps as steps
use Rattle.sp_core.specs.declared.answer.Answer.{Answer}
use Rattle.sp_core.specs.declared.answer.Answer.TheVariants as a
use Rattle.sp_core.specs.declared.fault.CoreFault.{CoreFault}
use Rattle.sp_core.specs.declared.fault.CoreFault.TheVariants as f
use Rattle.sp_core.specs.Running.{Running}
use Rattle.sp_core.specs.Carrying.{ticket_of}

-- the plan; how many versions may be live; and the state of the machine, readings among it
pub record Benched : Type 0 where
  pub plan : Plan
  pub bound : ℕ
  pub machine : Machine

-- a core put on a bench
abbrev pub benched : Running → Benched
benched c = record { plan = c.plan; bound = c.bound; machine = c.machine }

-- what whoever takes a step owes: an event that is fed fits the plan, and its time does not go back; a lease asks for 1 to 1,024 events
abbrev pub CanTake : Benched → Step → Type 0
CanTake b (s.Feed e) = Good b.plan (b.machine.events ++ e ∷ [])
CanTake b (s.Lease id n) = (1 ≤ n) × (n ≤ batch_limit)
CanTake b s.End = Unit {0}
CanTake b (s.Spawn parent label) = Unit {0}
CanTake b (s.Event n) = Unit {0}
CanTake b (s.Return n) = Unit {0}
CanTake b (s.Roll id) = Unit {0}
CanTake b s.Finish = Unit {0}

-- why a bench refuses a step, if it does
abbrev pub refused_by : Benched → Step → Option Refusal
refused_by b x = refusal b.plan b.bound b.machine x

-- the bench after a step that it does not refuse
abbrev pub taken : Benched → Step → Benched
taken b x = record b { machine = effect b.plan b.machine x }

-- a step was taken, and was not to be refused
abbrev pub IsTaken : Step → Benched → Benched → Type 0
IsTaken x old new = (refused_by old x ≡ None) × (new ≡ taken old x)

-- what an answer says
abbrev pub answered : Answer → Answered
answered (a.Fed number) = steps.Fed number
answered a.Ended = steps.Ended
answered (a.Spawned id) = steps.Spawned id
answered (a.Leased lent) = steps.Leased (ticket_of lent)
answered (a.Read number skipped) = steps.Read number skipped
answered a.Closed = steps.Closed
answered a.Home = steps.Home
answered a.Stale = steps.Stale
answered (a.Rolled id) = steps.Rolled id
answered (a.Finished e) = steps.Finished e.window e.matches.items e.root

-- the answer to a step is the definition's
abbrev pub IsAnswerTo : Benched → Step → Answer → Type 0
IsAnswerTo b x given = answered given ≡ answer b.plan b.machine x

-- a refusal is the definition's, with its values; want of memory may come at any time
abbrev pub IsBenchFault : Benched → Step → CoreFault → Type 0
IsBenchFault b x (f.Refused why) = refused_by b x ≡ Some why
IsBenchFault b x f.Memory = Unit {0}
