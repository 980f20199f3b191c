-- Readings of rows that come out of order, tried by computation on what small rows give.
use Rattle.std.proofs.Common.{◌≡◌, ℕ, ℤ, pos, true, fold, List, [], ◌∷◌, map, refl}
use Rattle.std.specs.Prelude.{codes, Some}
use Rattle.sp_plan.specs.declared.plan.Plan.{Plan}
use Rattle.sp_plan.specs.declared.plan.Kind.TheVariants.{Int, Text}
use Rattle.sp_plan.specs.declared.plan.Length.TheVariants.{Events}
use Rattle.sp_plan.specs.declared.plan.Opening.TheVariants.{EveryEvents}
use Rattle.sp_plan.specs.declared.plan.Select.TheVariants.{First}
use Rattle.sp_rows.specs.Rows.{RowsRead, RowResult, nothing, event}
use Rattle.sp_rows.specs.Rows as row_states
use Rattle.sp_slack.specs.declared.late.LateRule.{LateRule}
use Rattle.sp_slack.specs.declared.late.LateRule.TheVariants.{Refuse, Drop}
use Rattle.sp_ports.specs.declared.stop.Stop.TheVariants.{Failed}
use Rattle.sp_ports.specs.declared.stop.Failure.TheVariants.{Row}
use Rattle.sp_intake.specs.Reading.{stop_of}
use Rattle.sp_intake.specs.Loose.{Lateness, Loose, start, with_result}

-- a text, and a time behind it
abbrev plan : Plan
plan = record {
  schema = record { columns = (record { name = codes "k"; kind = Text }) ∷ (record { name = codes "at"; kind = Int }) ∷ []; time = Some 1 };
  names = [];
  elements = [];
  select = First;
  length = Events 10;
  opening = EveryEvents 10;
  texts = [];
}

abbrev by : ℕ → LateRule → Lateness
by slack rule = record { slack = pos slack; rule = rule }

-- the rows that were read, once there were so many
abbrev behind : ℕ → RowsRead
behind n = record (row_states.start plan) { places = Some (0 ∷ 1 ∷ []); read = n }

-- what a row gives that is the last of so many, and has this time
abbrev at : ℕ × ℕ → RowResult
at one = event (record { time = pos one.1; values = [] }) (behind one.0)

-- what the rows of a header and of these times give
abbrev given : Lateness → List (ℕ × ℕ) → Loose
given l times = fold (with_result plan l) (start plan) (nothing (behind 1) ∷ map at times)

abbrev out_of_order : List (ℕ × ℕ)
out_of_order = (2, 1) ∷ (3, 3) ∷ (4, 2) ∷ (5, 4) ∷ []

abbrev times : Loose → List ℤ
times r = map (λ e. e.time) r.reading.events

-- within the slack all are kept, as they came
within_slack : times (given (by 2 Refuse) out_of_order) ≡ pos 1 ∷ pos 3 ∷ pos 2 ∷ pos 4 ∷ []
within_slack = refl

-- one that is just the slack behind is kept too
just_within : times (given (by 1 Refuse) out_of_order) ≡ pos 1 ∷ pos 3 ∷ pos 2 ∷ pos 4 ∷ []
just_within = refl

-- without a slack it is passed over and counted
passed_over : times (given (by 0 Drop) out_of_order) ≡ pos 1 ∷ pos 3 ∷ pos 4 ∷ []
passed_over = refl

counted : (given (by 0 Drop) out_of_order).late ≡ 1
counted = refl

-- or its row is faulty, in the time's column
refused : stop_of (given (by 0 Refuse) ((2, 1) ∷ (3, 3) ∷ (4, 2) ∷ [])).reading true ≡ Failed (Row 6 4 2)
refused = refl

-- none is late before the first
first : (given (by 0 Drop) ((2, 0) ∷ [])).late ≡ 0
first = refl

-- one that was passed over is not held for the greatest time
greatest_kept : times (given (by 1 Drop) ((2, 5) ∷ (3, 3) ∷ (4, 4) ∷ [])) ≡ pos 5 ∷ pos 4 ∷ []
greatest_kept = refl
