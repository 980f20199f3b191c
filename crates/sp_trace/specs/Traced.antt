-- What a run of the machine over a schedule prints.
use Rattle.std.specs.Prelude.{ℕ, Bool, true, false, List, [], ◌∷◌, ◌++◌, length, Option, Some, None, map, slice_get, codes}
use Rattle.std.specs.List.{flat_map}
use Rattle.std.specs.Fmt.{decimal}
use Rattle.sp_base.specs.Commas.{list_text}
use Rattle.sp_plan.specs.declared.event.Event.{Event}
use Rattle.sp_plan.specs.declared.plan.Plan.{Plan}
use Rattle.sp_plan.specs.Lines.{line}
use Rattle.sp_group.specs.declared.refusal.Refusal.{Refusal}
use Rattle.sp_group.specs.declared.refusal.Refusal.TheVariants as r
use Rattle.sp_group.specs.declared.step.Step.{Step}
use Rattle.sp_group.specs.declared.step.Step.TheVariants as s
use Rattle.sp_group.specs.Codes.{code_of}
use Rattle.sp_group.specs.Machine.{Machine, Ticket, opening}
use Rattle.sp_group.specs.Seen.{state_seen}
use Rattle.sp_group.specs.Steps.{Answered, Fed, Ended, Spawned, Leased, Read, Closed, Home, Stale, Rolled, Finished, Nothing, Reply, Refused, Done, reply, step}
use Rattle.sp_sched.specs.declared.step.TraceStep.{TraceStep}
use Rattle.sp_sched.specs.declared.step.TraceStep.TheVariants as t
use Rattle.sp_emit.specs.StateLines.{id_text, truth_text, lines_of_state}

-- the plan, the bound, the events of the whole input, and the state of the machine so far
pub record Tracing : Type 0 where
  pub plan : Plan
  pub bound : ℕ
  pub events : List Event
  pub machine : Machine

-- nothing has been printed yet
abbrev pub begun : Plan → ℕ → List Event → Tracing
begun q bound events = record { plan = q; bound = bound; events = events; machine = opening }

-- the event that is fed next, where the input has a further one
abbrev pub next_event : Tracing → Option Event
next_event g = slice_get g.events (length g.machine.events)

abbrev pub feeding : Option Event → Option Step
feeding None = None
feeding (Some e) = Some (s.Feed e)

-- the step of the machine for which a line of a schedule stands; none where the input has no further event, and for the printing of the state
abbrev pub machine_step : Tracing → TraceStep → Option Step
machine_step g t.Feed = feeding (next_event g)
machine_step g t.End = Some s.End
machine_step g (t.Spawn parent label) = Some (s.Spawn parent label)
machine_step g (t.Lease version count) = Some (s.Lease version count)
machine_step g (t.Event ticket) = Some (s.Event ticket)
machine_step g (t.Return ticket) = Some (s.Return ticket)
machine_step g (t.Roll version) = Some (s.Roll version)
machine_step g t.Finish = Some s.Finish
machine_step g t.State = None

abbrev pub stepped : Tracing → Option Step → Tracing
stepped g None = g
stepped g (Some x) = record g { machine = step g.plan g.bound g.machine x }

-- how far the run has come after a line of a schedule
abbrev pub after : Tracing → TraceStep → Tracing
after g x = stepped g (machine_step g x)

-- the first word of a line
abbrev pub word_of : TraceStep → List ℕ
word_of t.Feed = codes "feed"
word_of t.End = codes "end"
word_of (t.Spawn parent label) = codes "spawn"
word_of (t.Lease version count) = codes "lease"
word_of (t.Event ticket) = codes "event"
word_of (t.Return ticket) = codes "return"
word_of (t.Roll version) = codes "roll"
word_of t.Finish = codes "finish"
word_of t.State = codes "state"

-- the values that a refusal carries, in their order
abbrev pub values_of : Refusal → List ℕ
values_of r.AfterEnd = []
values_of (r.NotLive version) = version ∷ []
values_of (r.NotOpen group) = group ∷ []
values_of (r.LabelTaken child) = child ∷ []
values_of (r.NoWindow number) = number ∷ []
values_of (r.Full live bound) = live ∷ bound ∷ []
values_of (r.Out ticket) = ticket ∷ []
values_of (r.Conflict event) = event ∷ []
values_of (r.NoConflict version) = version ∷ []
values_of (r.NothingToRead position) = position ∷ []
values_of (r.NotDone finished) = finished ∷ []
values_of (r.TooManyEvents limit) = limit ∷ []
values_of (r.NoTicket ticket) = ticket ∷ []

-- a step that is refused: its word, the refusal's code and values
abbrev pub refused_line : List ℕ → Refusal → List ℕ
refused_line word why =
    word ++ codes " refused " ++ decimal (code_of why) ++ flat_map (λ n. codes " " ++ decimal n) (values_of why) ++ codes "\n"

-- the ticket or version that a reading, a return or a roll names
abbrev pub named_by : TraceStep → ℕ
named_by (t.Event ticket) = ticket
named_by (t.Return ticket) = ticket
named_by (t.Roll version) = version
named_by t.Feed = 0
named_by t.End = 0
named_by (t.Spawn parent label) = 0
named_by (t.Lease version count) = 0
named_by t.Finish = 0
named_by t.State = 0

abbrev pub lease_line : Ticket → List ℕ
lease_line l =
    codes "lease " ++ decimal l.number ++ codes " first=" ++ decimal l.first ++ codes " count=" ++ decimal l.count ++ codes " skip=" ++ list_text l.snapshot
    ++ codes " closes=" ++ truth_text l.closes ++ codes "\n"

-- what stands behind the number of an event that was passed over
abbrev pub skip_text : Bool → List ℕ
skip_text true = codes " skip"
skip_text false = []

abbrev pub finish_line : ℕ → ℕ → Option ℕ → List ℕ
finish_line window count root = codes "finish " ++ decimal window ++ codes " matches=" ++ decimal count ++ codes " root=" ++ id_text root ++ codes "\n"

-- the lines of an answer
abbrev pub answer_lines : Plan → TraceStep → Answered → List (List ℕ)
answer_lines q x (Fed number) = (codes "feed " ++ decimal number ++ codes "\n") ∷ []
answer_lines q x Ended = codes "end\n" ∷ []
answer_lines q x (Spawned id) = (codes "spawn " ++ decimal id ++ codes "\n") ∷ []
answer_lines q x (Leased l) = lease_line l ∷ []
answer_lines q x (Read number skipped) =
    (codes "event " ++ decimal (named_by x) ++ codes " " ++ decimal number ++ skip_text skipped ++ codes "\n") ∷ []
answer_lines q x Closed = (codes "event " ++ decimal (named_by x) ++ codes " close\n") ∷ []
answer_lines q x Home = (codes "return " ++ decimal (named_by x) ++ codes " home\n") ∷ []
answer_lines q x Stale = (codes "return " ++ decimal (named_by x) ++ codes " stale\n") ∷ []
answer_lines q x (Rolled id) = (codes "roll " ++ decimal (named_by x) ++ codes " " ++ decimal id ++ codes "\n") ∷ []
answer_lines q x (Finished window matches root) = finish_line window (length matches) root ∷ map (line q) matches
answer_lines q x Nothing = []

abbrev pub reply_lines : Plan → TraceStep → Reply → List (List ℕ)
reply_lines q x (Refused why) = refused_line (word_of x) why ∷ []
reply_lines q x (Done answer) = answer_lines q x answer

-- the lines of a step of the machine; where the input has no further event, of that
abbrev pub step_lines : Tracing → TraceStep → Option Step → List (List ℕ)
step_lines g x None = codes "feed none\n" ∷ []
step_lines g x (Some one) = reply_lines g.plan x (reply g.plan g.bound g.machine one)

-- what a line of a schedule prints
abbrev pub lines_for : Tracing → TraceStep → List (List ℕ)
lines_for g t.State = lines_of_state (state_seen g.plan g.machine)
lines_for g x = step_lines g x (machine_step g x)

-- what a schedule prints from here on
abbrev pub lines_from : Tracing → List TraceStep → List (List ℕ)
lines_from g [] = []
lines_from g (x ∷ xs) = lines_for g x ++ lines_from (after g x) xs

-- the lines one after another
abbrev pub joined : List (List ℕ) → List ℕ
joined lines = flat_map (λ one. one) lines

-- what a run of the machine over a schedule prints, with these events as the whole input
abbrev pub traced : Plan → ℕ → List Event → List TraceStep → List ℕ
traced q bound events steps = joined (lines_from (begun q bound events) steps)
