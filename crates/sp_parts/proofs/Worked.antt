-- The parts of worked rows, by computation.
use Rattle.std.proofs.Common.{◌≡◌, ℕ, pos, Bool, true, false, List, [], ◌∷◌, refl}
use Rattle.std.specs.Prelude.{codes}
use Rattle.std.specs.Fmt.{digits}
use Rattle.sp_plan.specs.declared.event.Event.{Event}
use Rattle.sp_plan.specs.declared.plan.Plan.{Plan}
use Rattle.sp_plan.specs.declared.plan.Select.TheVariants.{First}
use Rattle.sp_plan.specs.declared.plan.Length.{Length}
use Rattle.sp_plan.specs.declared.plan.Length.TheVariants.{Events, Time}
use Rattle.sp_plan.specs.declared.plan.Opening.{Opening}
use Rattle.sp_plan.specs.declared.plan.Opening.TheVariants.{EveryEvents, EveryTime, When}
use Rattle.sp_plan.specs.declared.plan.Compare.TheVariants.{Equal}
use Rattle.sp_plan.specs.declared.plan.Expr.{Word, Column}
use Rattle.sp_plan.specs.declared.plan.Pred.{Test}
use Rattle.sp_plan.specs.Lines.{text}
use Rattle.sp_plan.proofs.Worked.{plan, event, events, names_ab, a_then_b}
use Rattle.sp_parts.specs.Parts.{parts_of}
use Rattle.sp_parts.specs.Shifted.{shifted_all}

-- A and then B, both consumed, in windows of a length and an opening
abbrev pairs : Length → Opening → Plan
pairs l o = plan (names_ab true true) a_then_b First l o

-- what is written of the parts of a whole input
abbrev written_in_parts : Plan → List Event → Bool → List ℕ
written_in_parts q es ended = text q (shifted_all q (parts_of q es ended))

abbrev abab : List Event
abab = events (0 ∷ 1 ∷ 0 ∷ 1 ∷ [])

-- windows side by side are parts of their own
side_by_side : parts_of (pairs (Events 2) (EveryEvents 2)) abab true
    ≡ (record { first = 1; windows = 0; closed = true; events = event 1 0 ∷ event 2 1 ∷ [] })
    ∷ (record { first = 3; windows = 1; closed = true; events = event 3 0 ∷ event 4 1 ∷ [] }) ∷ []
side_by_side = refl

side_by_side_written : written_in_parts (pairs (Events 2) (EveryEvents 2)) abab true
    ≡ codes "w=1 m=1 A=1 B=2 used=1,2\nw=2 m=2 A=3 B=4 used=3,4\n"
unfolding digits
side_by_side_written = refl

-- the events between windows are in no part
gap : parts_of (pairs (Events 2) (EveryEvents 5)) (events (0 ∷ 1 ∷ 2 ∷ 2 ∷ 2 ∷ 0 ∷ 1 ∷ 2 ∷ [])) true
    ≡ (record { first = 1; windows = 0; closed = true; events = event 1 0 ∷ event 2 1 ∷ [] })
    ∷ (record { first = 6; windows = 1; closed = true; events = event 6 0 ∷ event 7 1 ∷ [] }) ∷ []
gap = refl

gap_written : written_in_parts (pairs (Events 2) (EveryEvents 5)) (events (0 ∷ 1 ∷ 2 ∷ 2 ∷ 2 ∷ 0 ∷ 1 ∷ 2 ∷ [])) true
    ≡ codes "w=1 m=1 A=1 B=2 used=1,2\nw=2 m=2 A=6 B=7 used=6,7\n"
unfolding digits
gap_written = refl

-- a window that begins with the last event of the one before is in its part
one_event_shared : parts_of (pairs (Events 3) (EveryEvents 2)) abab true
    ≡ (record { first = 1; windows = 0; closed = true; events = abab }) ∷ []
one_event_shared = refl

-- spans of time: two that begin at one event are one part
spans : parts_of (pairs (Time (pos 10)) (EveryTime (pos 5))) (event 1 0 ∷ event 100 0 ∷ []) true
    ≡ (record { first = 1; windows = 0; closed = true; events = event 1 0 ∷ [] })
    ∷ (record { first = 2; windows = 1; closed = true; events = event 100 0 ∷ [] }) ∷ []
spans = refl

-- while the input has not ended, only the last part may be open
open_part : parts_of (pairs (Events 3) (EveryEvents 4)) (events (0 ∷ 1 ∷ 2 ∷ 2 ∷ 0 ∷ 1 ∷ [])) false
    ≡ (record { first = 1; windows = 0; closed = true; events = event 1 0 ∷ event 2 1 ∷ event 3 2 ∷ [] })
    ∷ (record { first = 5; windows = 1; closed = false; events = event 5 0 ∷ event 6 1 ∷ [] }) ∷ []
open_part = refl

open_part_written : written_in_parts (pairs (Events 3) (EveryEvents 4)) (events (0 ∷ 1 ∷ 2 ∷ 2 ∷ 0 ∷ 1 ∷ [])) false
    ≡ codes "w=1 m=1 A=1 B=2 used=1,2\n"
unfolding digits
open_part_written = refl

-- windows that a predicate opens: events in front of the first and behind the last are in no part
opened_by_predicate : parts_of (pairs (Events 2) (When (Test Equal (Column 1) (Word 0)))) (events (2 ∷ 0 ∷ 1 ∷ 0 ∷ 1 ∷ 2 ∷ [])) false
    ≡ (record { first = 2; windows = 0; closed = true; events = event 2 0 ∷ event 3 1 ∷ [] })
    ∷ (record { first = 4; windows = 1; closed = true; events = event 4 0 ∷ event 5 1 ∷ [] }) ∷ []
opened_by_predicate = refl

opened_by_predicate_written : written_in_parts (pairs (Events 2) (When (Test Equal (Column 1) (Word 0)))) (events (2 ∷ 0 ∷ 1 ∷ 0 ∷ 1 ∷ 2 ∷ [])) false
    ≡ codes "w=1 m=1 A=2 B=3 used=2,3\nw=2 m=2 A=4 B=5 used=4,5\n"
unfolding digits
opened_by_predicate_written = refl

-- no window is no part
none : parts_of (pairs (Events 2) (When (Test Equal (Column 1) (Word 0)))) (events (2 ∷ 1 ∷ [])) true ≡ []
none = refl
