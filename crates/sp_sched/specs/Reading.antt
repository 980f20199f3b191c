-- What the parts of a schedule's text are read as.
use Rattle.std.specs.Prelude.{◌≡◌, ℕ, ◌+◌, ◌≤◌, Bool, false, ◌&&◌, nat_le, map, List, [], ◌∷◌, ◌++◌, length, Option, Some, None, ◌==◌}
use Rattle.std.specs.List.{All, slice_split}
use Rattle.std.specs.Fmt.{decimal}
use Rattle.sp_base.specs.Commas.{list_text}
use Rattle.sp_sched.specs.declared.step.TraceStep.{TraceStep}
use Rattle.sp_sched.specs.declared.fault.SchedFault.{SchedFault}
use Rattle.sp_sched.specs.declared.fault.SchedFault.TheVariants as f
use Rattle.sp_sched.specs.Schedules.{AreRuns, CanStand, step_text, lines, IsBad}

-- a text cut at each byte that is this one
abbrev pub parts : ℕ → List ℕ → List (List ℕ)
parts mark text = slice_split (λ b. b == mark) text

-- The first part of a text, and what stands behind the byte that ends it.
pub record IsCut (mark : ℕ) (text front rest : List ℕ) : Type 0 where
  pub cut : parts mark text ≡ front ∷ parts mark rest
  pub shorter : length front + length rest + 1 ≤ length text

-- The text is a number from 1 to the most.
pub record IsNumberText (most : ℕ) (text : List ℕ) (n : ℕ) : Type 0 where
  pub some : 1 ≤ n
  pub within : n ≤ most
  pub is : decimal n ≡ text

-- The text is runs as a schedule names them.
pub record AreRunsText (text runs : List ℕ) : Type 0 where
  pub are : AreRuns runs
  pub is : list_text runs ≡ text

-- The text is a step that can stand in a schedule.
pub record IsStepText (text : List ℕ) (x : TraceStep) : Type 0 where
  pub stands : CanStand x
  pub is : step_text x ≡ text

-- what a function answers that reads a whole text: what it is, and None exactly where it is nothing such
abbrev pub Answers : {A : Type 0} → (A → Type 0) → Option A → Type 0
Answers P None = (a : _) → P a → ⊥
Answers P (Some a) = P a

-- whether a text begins with a digit from 1 to 9
abbrev pub leads : List ℕ → Bool
leads [] = false
leads (b ∷ bs) = nat_le 49 b && nat_le b 57

-- The text is numbers of 32 bits, from 1, joined by commas: at least one.
pub record AreCommaText (text numbers : List ℕ) : Type 0 where
  pub some : All (λ n. 1 ≤ n) numbers
  pub small : All (λ n. n ≤ 4294967295) numbers
  pub is : map decimal numbers ≡ parts 44 text

-- The first of a text's lines, which a line feed ends, and what stands behind it.
pub record IsFirstLine (text line rest : List ℕ) : Type 0 where
  pub lines : lines text ≡ line ∷ lines rest
  pub shorter : length line + length rest + 1 ≤ length text

-- A line adds its step to those in front of it; a blank one adds none.
pub data Adds (line : List ℕ) (old new : List TraceStep) : Type 0 where
  nothing : line ≡ [] → new ≡ old → Adds line old new
  one_step : (x : TraceStep) → IsStepText line x → new ≡ old ++ x ∷ [] → Adds line old new

-- why a line, with so many in front of it, adds nothing
abbrev pub IsLineFault : List ℕ → ℕ → SchedFault → Type 0
IsLineFault line before (f.BadStep number) = IsBad line × (number ≡ before + 1)
IsLineFault line before f.Memory = Unit {0}
