-- What an answer and a refusal tell.
use Rattle.std.specs.Prelude.{◌≡◌, ℕ, List, [], ◌∷◌, Option, Some, None, codes}
use Rattle.sp_plan.specs.declared.found.Match.{Match}
use Rattle.sp_plan.specs.declared.plan.Plan.{Plan}
use Rattle.sp_sched.specs.declared.step.TraceStep.{TraceStep}
use Rattle.sp_core.specs.declared.answer.Answer.{Answer}
use Rattle.sp_core.specs.declared.answer.Answer.TheVariants as a
use Rattle.sp_core.specs.declared.fault.CoreFault.{CoreFault}
use Rattle.sp_core.specs.declared.fault.CoreFault.TheVariants as f
use Rattle.sp_core.specs.Benched.{answered}
use Rattle.sp_trace.specs.Traced.{Tracing, after, answer_lines, machine_step, refused_line, step_lines, word_of}

-- the first line, or an empty one where there is none
abbrev pub first_line : List (List ℕ) → List ℕ
first_line [] = []
first_line (line ∷ lines) = line

-- the matches of a finished window; of any other answer none
abbrev pub matches_in : Answer → List Match
matches_in (a.Fed number) = []
matches_in a.Ended = []
matches_in (a.Spawned id) = []
matches_in (a.Leased lent) = []
matches_in (a.Read number skipped) = []
matches_in a.Closed = []
matches_in a.Home = []
matches_in a.Stale = []
matches_in (a.Rolled id) = []
matches_in (a.Finished finished) = finished.matches.items

-- the lines of an answer; where there was nothing to take, that the input has no further event
abbrev pub told_lines : Plan → TraceStep → Option Answer → List (List ℕ)
told_lines q x None = codes "feed none\n" ∷ []
told_lines q x (Some given) = answer_lines q x (answered given)

-- an answer tells the lines of the step for which a line of a schedule stands
abbrev pub IsTold : Tracing → TraceStep → Option Answer → Type 0
IsTold g x given = told_lines g.plan x given ≡ step_lines g x (machine_step g x)

-- A refusal tells them too, and the step changes nothing; want of memory may come at any time.
abbrev pub IsTurnedDown : Tracing → TraceStep → CoreFault → Type 0
IsTurnedDown g x (f.Refused why) = (refused_line (word_of x) why ∷ [] ≡ step_lines g x (machine_step g x)) × (after g x ≡ g)
IsTurnedDown g x f.Memory = Unit {0}
