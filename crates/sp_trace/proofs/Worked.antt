-- Plans, events and steps of the worked runs.
use Rattle.std.proofs.Common.{ℕ, pos, true, false, List, [], ◌∷◌, map, replicate, Some, None}
use Rattle.std.specs.Prelude.{codes}
use Rattle.std.specs.List.{enumerate_from}
use Rattle.sp_plan.specs.declared.event.Event.{Event}
use Rattle.sp_plan.specs.declared.event.Value.TheVariants.{Number, Symbol}
use Rattle.sp_plan.specs.declared.plan.Plan.{Plan}
use Rattle.sp_plan.specs.declared.plan.Name.{Name}
use Rattle.sp_plan.specs.declared.plan.Schema.{Schema}
use Rattle.sp_plan.specs.declared.plan.Kind.TheVariants.{Int, Text}
use Rattle.sp_plan.specs.declared.plan.Compare.TheVariants.{Equal, Less, Greater}
use Rattle.sp_plan.specs.declared.plan.Select.{Select}
use Rattle.sp_plan.specs.declared.plan.Select.TheVariants.{First, Each}
use Rattle.sp_plan.specs.declared.plan.Element.TheVariants.{One}
use Rattle.sp_plan.specs.declared.plan.Length.TheVariants.{Events}
use Rattle.sp_plan.specs.declared.plan.Opening.TheVariants.{EveryEvents}
use Rattle.sp_plan.specs.declared.plan.Expr.{Literal, Word, Column, Earlier}
use Rattle.sp_plan.specs.declared.plan.Pred.{Test}
use Rattle.sp_sched.specs.declared.step.TraceStep.{TraceStep}
use Rattle.sp_sched.specs.declared.step.TraceStep.TheVariants as t

-- columns of a time and a text; the texts a, b, c and x have the symbols 0 to 3
abbrev schema : Schema
schema = record { columns = (record { name = codes "at"; kind = Int }) ∷ (record { name = codes "k"; kind = Text }) ∷ []; time = Some 0 }

abbrev named : List ℕ → ℕ → Name
named name symbol = record { text = name; pred = Test Equal (Column 1) (Word symbol); consumed = true }

-- names in sequence, over four events every two
abbrev sequence : Select → List Name → Plan
sequence select names = record {
  schema = schema;
  names = names;
  elements = map (λ pair. One pair.0) (enumerate_from 0 names);
  select = select;
  length = Events 4;
  opening = EveryEvents 2;
  texts = codes "a" ∷ codes "b" ∷ codes "c" ∷ [];
}

-- A then B; A, B and then C; all consumed
abbrev pub ab : Plan
ab = sequence First (named (codes "A") 0 ∷ named (codes "B") 1 ∷ [])

abbrev pub abc : Select → Plan
abc select = sequence select (named (codes "A") 0 ∷ named (codes "B") 1 ∷ named (codes "C") 2 ∷ [])

-- one column of numbers: A below 10, B above A's, C 100; B alone is consumed
abbrev pub climb : Plan
climb = record (sequence Each (
    (record { text = codes "A"; pred = Test Less (Column 0) (Literal (pos 10)); consumed = false })
    ∷ (record { text = codes "B"; pred = Test Greater (Column 0) (Earlier 0 0); consumed = true })
    ∷ (record { text = codes "C"; pred = Test Equal (Column 0) (Literal (pos 100)); consumed = false })
    ∷ [])) { schema = record { columns = (record { name = codes "x"; kind = Int }) ∷ []; time = None }; texts = [] }

-- events of these texts, at the times 1, 2, 3 and so on
abbrev pub events : List ℕ → List Event
events symbols = map (λ pair. record { time = pos pair.0; values = Number (pos pair.0) ∷ Symbol pair.1 ∷ [] }) (enumerate_from 1 symbols)

-- events of one number each, with no time
abbrev pub numbers : List ℕ → List Event
numbers ns = map (λ n. record { time = pos 0; values = Number (pos n) ∷ [] }) ns

abbrev pub times : ℕ → TraceStep → List TraceStep
times n x = replicate n x

abbrev pub root : TraceStep
root = t.Spawn None []

abbrev pub child : ℕ → List ℕ → TraceStep
child p label = t.Spawn (Some p) label
