-- What a schedule is: a text with one step a line.
use Rattle.std.specs.Prelude.{◌≡◌, ◌≢◌, ℕ, ◌+◌, ◌-◌, ◌<◌, ◌≤◌, ◌^◌, Bool, List, [], ◌∷◌, ◌++◌, length, take, Option, Some, None, slice_get, codes, ◌==◌, if◌then◌else◌}
use Rattle.std.specs.List.{All, flat_map, slice_split}
use Rattle.std.specs.Fmt.{decimal}
use Rattle.sp_base.specs.Commas.{list_text}
use Rattle.sp_base.specs.Limits.{batch_limit}
use Rattle.sp_group.specs.Rising.{IsLabel}
use Rattle.sp_sched.specs.declared.step.TraceStep.{TraceStep}
use Rattle.sp_sched.specs.declared.step.TraceStep.TheVariants as t
use Rattle.sp_sched.specs.declared.fault.SchedFault.{SchedFault}
use Rattle.sp_sched.specs.declared.fault.SchedFault.TheVariants as f

-- a number that a schedule can name: it has 1 to 19 digits, and is not 0
abbrev pub IsNumber : ℕ → Type 0
IsNumber n = (1 ≤ n) × (n < 10 ^ 19)

-- runs that a schedule can name: rising, none of them 0, each of 32 bits
abbrev pub AreRuns : List ℕ → Type 0
AreRuns runs = IsLabel runs × All (λ r. r < 2 ^ 32) runs

-- a step that can stand in a schedule
abbrev pub CanStand : TraceStep → Type 0
CanStand t.Feed = Unit {0}
CanStand t.End = Unit {0}
CanStand (t.Spawn None label) = label ≡ []
CanStand (t.Spawn (Some parent) label) = IsNumber parent × AreRuns label
CanStand (t.Lease version count) = IsNumber version × (1 ≤ count) × (count ≤ batch_limit)
CanStand (t.Event ticket) = IsNumber ticket
CanStand (t.Return ticket) = IsNumber ticket
CanStand (t.Roll version) = IsNumber version
CanStand t.Finish = Unit {0}
CanStand t.State = Unit {0}

-- the one way in which a step is written
abbrev pub step_text : TraceStep → List ℕ
step_text t.Feed = codes "feed"
step_text t.End = codes "end"
step_text (t.Spawn None label) = codes "spawn root"
step_text (t.Spawn (Some parent) label) = codes "spawn " ++ decimal parent ++ codes " " ++ list_text label
step_text (t.Lease version count) = codes "lease " ++ decimal version ++ codes " " ++ decimal count
step_text (t.Event ticket) = codes "event " ++ decimal ticket
step_text (t.Return ticket) = codes "return " ++ decimal ticket
step_text (t.Roll version) = codes "roll " ++ decimal version
step_text t.Finish = codes "finish"
step_text t.State = codes "state"

abbrev pub is_cr : Option ℕ → Bool
is_cr None = Bool.false
is_cr (Some b) = b == 13

-- what a line feed ends, without a carriage return just before it
abbrev pub without_cr : List ℕ → List ℕ
without_cr part = if is_cr (slice_get part (length part - 1)) then take (length part - 1) part else part

-- parts of a text as lines: the last one is what stands behind the last line feed, and is taken as it is
abbrev pub lines_of_parts : List (List ℕ) → List (List ℕ)
lines_of_parts [] = []
lines_of_parts (rest ∷ []) = rest ∷ []
lines_of_parts (part ∷ next ∷ parts) = without_cr part ∷ lines_of_parts (next ∷ parts)

-- the lines of a text, which is cut at each line feed
abbrev pub lines : List ℕ → List (List ℕ)
lines text = lines_of_parts (slice_split (λ b. b == 10) text)

-- These lines are these steps: each is blank, or is a step that can stand.
pub data AreSteps : List (List ℕ) → List TraceStep → Type 0 where
  none : AreSteps [] []
  blank : (rest : List (List ℕ)) (steps : List TraceStep) → AreSteps rest steps → AreSteps ([] ∷ rest) steps
  step : (x : TraceStep) (rest : List (List ℕ)) (steps : List TraceStep) → CanStand x → AreSteps rest steps → AreSteps (step_text x ∷ rest) (x ∷ steps)

-- the text is a schedule of these steps
abbrev pub IsSchedule : List ℕ → List TraceStep → Type 0
IsSchedule text steps = AreSteps (lines text) steps

-- a line that is neither blank nor a step
abbrev pub IsBad : List ℕ → Type 0
IsBad line = (line ≢ []) × ((x : TraceStep) → CanStand x → step_text x ≡ line → ⊥)

-- The first bad line of a text, by its number from 1: the lines before it, blank ones among them, are steps.
pub record IsBadLine (text : List ℕ) (number : ℕ) : Type 0 where
  pub front : List (List ℕ)
  pub line : List ℕ
  pub rest : List (List ℕ)
  pub steps : List TraceStep
  pub are : lines text ≡ front ++ line ∷ rest
  pub good : AreSteps front steps
  pub bad : IsBad line
  pub at : number ≡ length front + 1

-- why a text is no schedule; want of memory may come at any time
abbrev pub IsFault : List ℕ → SchedFault → Type 0
IsFault text (f.BadStep line) = IsBadLine text line
IsFault text f.Memory = Unit {0}

-- steps as a text: each on a line of its own
abbrev pub schedule_text : List TraceStep → List ℕ
schedule_text steps = flat_map (λ x. step_text x ++ codes "\n") steps

-- A text is a schedule of one list of steps at most, has one first bad line at most, and never both.
pub record OneSchedule : Type 0 where
  pub steps : (text : List ℕ) (one other : List TraceStep) → IsSchedule text one → IsSchedule text other → one ≡ other
  pub bad : (text : List ℕ) (one other : ℕ) → IsBadLine text one → IsBadLine text other → one ≡ other
  pub apart : (text : List ℕ) (steps : List TraceStep) (number : ℕ) → IsSchedule text steps → IsBadLine text number → ⊥
