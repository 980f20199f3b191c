-- Plans, events and steps of the worked runs.
use Rattle.std.proofs.Common.{ℕ, pos, Bool, true, false, List, [], ◌∷◌, map, replicate, Some, None}
use Rattle.std.specs.Prelude.{codes}
use Rattle.std.specs.List.{enumerate_from}
use Rattle.sp_plan.specs.declared.event.Event.{Event}
use Rattle.sp_plan.specs.declared.found.Match.{Match}
use Rattle.sp_plan.specs.declared.event.Value.TheVariants.{Number, Symbol}
use Rattle.sp_plan.specs.declared.plan.Plan.{Plan}
use Rattle.sp_plan.specs.declared.plan.Name.{Name}
use Rattle.sp_plan.specs.declared.plan.Schema.{Schema}
use Rattle.sp_plan.specs.declared.plan.Kind.TheVariants.{Int, Text}
use Rattle.sp_plan.specs.declared.plan.Compare.TheVariants.{Equal, Less, Greater}
use Rattle.sp_plan.specs.declared.plan.Select.{Select}
use Rattle.sp_plan.specs.declared.plan.Select.TheVariants.{First, Each}
use Rattle.sp_plan.specs.declared.plan.Element.TheVariants.{One}
use Rattle.sp_plan.specs.declared.plan.Length.TheVariants.{Events}
use Rattle.sp_plan.specs.declared.plan.Opening.TheVariants.{EveryEvents}
use Rattle.sp_plan.specs.declared.plan.Expr.{Literal, Word, Column, Earlier}
use Rattle.sp_plan.specs.declared.plan.Pred.{Test}
use Rattle.sp_group.specs.declared.step.Step.{Step}
use Rattle.sp_group.specs.declared.step.Step.TheVariants as s
use Rattle.sp_group.specs.Machine.{Machine, opening}
use Rattle.sp_group.specs.Steps.{Reply, Done, Leased, reply, step, steps}
use Rattle.sp_group.specs.Seen.{StateSeen, state_seen}

-- columns of a time and a text; the texts a, b, c and x have the symbols 0 to 3
abbrev pub schema : Schema
schema = record { columns = (record { name = codes "at"; kind = Int }) ∷ (record { name = codes "k"; kind = Text }) ∷ []; time = Some 0 }

abbrev pub named : List ℕ → ℕ → Name
named name symbol = record { text = name; pred = Test Equal (Column 1) (Word symbol); consumed = true }

-- names in sequence, over four events every two, all consumed
abbrev pub sequence : Select → List Name → Plan
sequence select names = record {
  schema = schema;
  names = names;
  elements = map (λ pair. One pair.0) (enumerate_from 0 names);
  select = select;
  length = Events 4;
  opening = EveryEvents 2;
  texts = codes "a" ∷ codes "b" ∷ codes "c" ∷ [];
}

-- A then B; A, B and then C
abbrev pub ab : Plan
ab = sequence First (named (codes "A") 0 ∷ named (codes "B") 1 ∷ [])

abbrev pub names_abc : List Name
names_abc = named (codes "A") 0 ∷ named (codes "B") 1 ∷ named (codes "C") 2 ∷ []

abbrev pub abc : Plan
abc = sequence First names_abc

abbrev pub abc_each : Plan
abc_each = sequence Each names_abc

-- an event of a time and a text
abbrev pub event : ℕ → ℕ → Event
event at symbol = record { time = pos at; values = Number (pos at) ∷ Symbol symbol ∷ [] }

-- the feeding of events at the times 1, 2, 3 and so on
abbrev pub fed : List ℕ → List Step
fed symbols = map (λ pair. s.Feed (event pair.0 pair.1)) (enumerate_from 1 symbols)

abbrev pub times : ℕ → Step → List Step
times n x = replicate n x

abbrev pub root : Step
root = s.Spawn None []

abbrev pub child : ℕ → List ℕ → Step
child p label = s.Spawn (Some p) label

-- what steps answer, one after another
abbrev pub replies : Plan → ℕ → Machine → List Step → List Reply
replies q bound m [] = []
replies q bound m (x ∷ xs) = reply q bound m x ∷ replies q bound (step q bound m x) xs

abbrev pub answers : Plan → ℕ → List Step → List Reply
answers q bound xs = replies q bound opening xs

-- the state to which steps lead, as it is printed
abbrev pub state_after : Plan → ℕ → List Step → StateSeen
state_after q bound xs = state_seen q (steps q bound opening xs)

-- a lease that is done
abbrev pub out : ℕ → ℕ → ℕ → ℕ → List ℕ → Bool → Reply
out number version first count snapshot closes = Done (Leased (record {
  number = number;
  version = version;
  first = first;
  count = count;
  snapshot = snapshot;
  closes = closes;
  read = 0;
  closing_read = false;
}))

-- a match whose names, in order, bind these events
abbrev pub found : ℕ → ℕ → List (List ℕ) → List ℕ → Match
found window number bound used = record { window = window; number = number; bound = enumerate_from 0 bound; used = used }

-- one column of numbers: A below 10, B above A's, C 100; B alone is consumed
abbrev pub climb : Plan
climb = record (sequence Each (
    (record { text = codes "A"; pred = Test Less (Column 0) (Literal (pos 10)); consumed = false })
    ∷ (record { text = codes "B"; pred = Test Greater (Column 0) (Earlier 0 0); consumed = true })
    ∷ (record { text = codes "C"; pred = Test Equal (Column 0) (Literal (pos 100)); consumed = false })
    ∷ [])) { schema = record { columns = (record { name = codes "x"; kind = Int }) ∷ []; time = None }; texts = [] }

abbrev pub numbers_fed : List ℕ → List Step
numbers_fed numbers = map (λ n. s.Feed (record { time = pos 0; values = Number (pos n) ∷ [] })) numbers
