-- The definitions tried on worked rows, by computation.
use Rattle.std.proofs.Common.{◌≡◌, ℕ, pos, Bool, true, false, List, [], ◌∷◌, ◌++◌, length, drop, map, replicate, Some, refl}
use Rattle.std.specs.Prelude.{codes}
use Rattle.std.specs.Fmt.{digits}
use Rattle.std.specs.List.{enumerate_from}
use Rattle.sp_plan.specs.declared.event.Event.{Event}
use Rattle.sp_plan.specs.declared.event.Value.TheVariants.{Number, Symbol}
use Rattle.sp_plan.specs.declared.found.Match.{Match}
use Rattle.sp_plan.specs.declared.plan.Plan.{Plan}
use Rattle.sp_plan.specs.declared.plan.Name.{Name}
use Rattle.sp_plan.specs.declared.plan.Schema.{Schema}
use Rattle.sp_plan.specs.declared.plan.Kind.TheVariants.{Int, Text}
use Rattle.sp_plan.specs.declared.plan.Compare.TheVariants.{Equal, Unequal}
use Rattle.sp_plan.specs.declared.plan.Select.{Select}
use Rattle.sp_plan.specs.declared.plan.Select.TheVariants.{First, Last, Each}
use Rattle.sp_plan.specs.declared.plan.Element.{Element}
use Rattle.sp_plan.specs.declared.plan.Element.TheVariants.{One, Plus, Set}
use Rattle.sp_plan.specs.declared.plan.Length.{Length}
use Rattle.sp_plan.specs.declared.plan.Length.TheVariants.{Events, Time}
use Rattle.sp_plan.specs.declared.plan.Opening.{Opening}
use Rattle.sp_plan.specs.declared.plan.Opening.TheVariants.{EveryEvents, EveryTime, When}
use Rattle.sp_plan.specs.declared.plan.Expr.{Word, Column}
use Rattle.sp_plan.specs.declared.plan.Pred.{Test}
use Rattle.sp_plan.specs.Sequential.{whole}
use Rattle.sp_plan.specs.Lines.{text}

-- two columns, the time and a text
abbrev pub schema : Schema
schema = record { columns = (record { name = codes "at"; kind = Int }) ∷ (record { name = codes "k"; kind = Text }) ∷ []; time = Some 0 }

-- a name for events whose text is the symbol
abbrev pub is : List ℕ → ℕ → Bool → Name
is name symbol consumed = record { text = name; pred = Test Equal (Column 1) (Word symbol); consumed = consumed }

-- a name for events whose text is another
abbrev pub other_than : List ℕ → ℕ → Bool → Name
other_than name symbol consumed = record { text = name; pred = Test Unequal (Column 1) (Word symbol); consumed = consumed }

abbrev pub plan : List Name → List Element → Select → Length → Opening → Plan
plan names elements select length opening = record {
  schema = schema;
  names = names;
  elements = elements;
  select = select;
  length = length;
  opening = opening;
  texts = codes "a" ∷ codes "b" ∷ codes "c" ∷ [];
}

abbrev pub event : ℕ → ℕ → Event
event at symbol = record { time = pos at; values = Number (pos at) ∷ Symbol symbol ∷ [] }

-- events at the times 1, 2, 3 and so on
abbrev pub events : List ℕ → List Event
events symbols = map (λ pair. event pair.0 pair.1) (enumerate_from 1 symbols)

-- what a plan writes of a whole input
abbrev pub written : Plan → List Event → List ℕ
written q es = text q (whole q es true).matches

-- what it writes while the input has not ended
abbrev written_so_far : Plan → List Event → List ℕ
written_so_far q es = text q (whole q es false).matches

abbrev pub names_ab : Bool → Bool → List Name
names_ab first second = is (codes "A") 0 first ∷ is (codes "B") 1 second ∷ []

abbrev pub names_abc : List Name
names_abc = is (codes "A") 0 true ∷ is (codes "B") 1 true ∷ is (codes "C") 2 true ∷ []

abbrev pub a_then_b : List Element
a_then_b = One 0 ∷ One 1 ∷ []

-- two windows hold events 3 and 4, and the first has consumed them
consumed_in_both_windows : written (plan (names_ab true true) a_then_b First (Events 4) (EveryEvents 2)) (events (0 ∷ 1 ∷ 0 ∷ 1 ∷ [])) ≡ codes "w=1 m=1 A=1 B=2 used=1,2\nw=1 m=2 A=3 B=4 used=3,4\n"
unfolding digits
consumed_in_both_windows = refl

-- nothing is consumed, so the second window matches them again
nothing_consumed : written (plan (names_ab false false) a_then_b First (Events 4) (EveryEvents 2)) (events (0 ∷ 1 ∷ 0 ∷ 1 ∷ [])) ≡ codes "w=1 m=1 A=1 B=2 used=-\nw=1 m=2 A=3 B=4 used=-\nw=2 m=3 A=3 B=4 used=-\n"
unfolding digits
nothing_consumed = refl

-- a window that may still grow writes nothing
open_window : written_so_far (plan (names_ab true true) a_then_b First (Events 4) (EveryEvents 2)) (events (0 ∷ 1 ∷ 0 ∷ [])) ≡ codes ""
unfolding digits
open_window = refl

-- a window is closed once its last event is there
closed_by_its_length : written_so_far (plan (names_ab true true) a_then_b First (Events 4) (EveryEvents 2)) (events (0 ∷ 1 ∷ 0 ∷ 1 ∷ [])) ≡ codes "w=1 m=1 A=1 B=2 used=1,2\nw=1 m=2 A=3 B=4 used=3,4\n"
unfolding digits
closed_by_its_length = refl

-- only B is consumed; the later windows have lost it
only_b_consumed : written (plan (names_ab false true) a_then_b First (Events 3) (EveryEvents 1)) (events (0 ∷ 0 ∷ 1 ∷ [])) ≡ codes "w=1 m=1 A=1 B=3 used=3\n"
unfolding digits
only_b_consumed = refl

-- two runs want one B, which the older one takes
each_shares_b : written (plan (names_ab true true) a_then_b Each (Events 10) (EveryEvents 10)) (events (0 ∷ 0 ∷ 1 ∷ [])) ≡ codes "w=1 m=1 A=1 B=3 used=1,3\n"
unfolding digits
each_shares_b = refl

-- B is not consumed, so both runs match it
each_keeps_b : written (plan (names_ab true false) a_then_b Each (Events 10) (EveryEvents 10)) (events (0 ∷ 0 ∷ 1 ∷ [])) ≡ codes "w=1 m=1 A=1 B=3 used=1\nw=1 m=2 A=2 B=3 used=2\n"
unfolding digits
each_keeps_b = refl

-- under LAST the second A replaces the first
last_replaces : written (plan (names_ab true true) a_then_b Last (Events 4) (EveryEvents 2)) (events (0 ∷ 0 ∷ 1 ∷ [])) ≡ codes "w=1 m=1 A=2 B=3 used=2,3\n"
unfolding digits
last_replaces = refl

-- B once or more
once_or_more : written (plan names_abc (One 0 ∷ Plus 1 ∷ One 2 ∷ []) First (Events 4) (EveryEvents 2)) (events (0 ∷ 1 ∷ 1 ∷ 2 ∷ [])) ≡ codes "w=1 m=1 A=1 B=2,3 C=4 used=1,2,3,4\n"
unfolding digits
once_or_more = refl

-- an event that fits C and B is taken as C
next_before_again : written (plan (is (codes "A") 0 true ∷ other_than (codes "B") 0 true ∷ is (codes "C") 2 true ∷ []) (One 0 ∷ Plus 1 ∷ One 2 ∷ []) First (Events 4) (EveryEvents 2)) (events (0 ∷ 1 ∷ 2 ∷ 1 ∷ [])) ≡ codes "w=1 m=1 A=1 B=2 C=3 used=1,2,3\n"
unfolding digits
next_before_again = refl

-- windows over spans of time; the second and the third begin at one event
spans_share_their_first : written (plan (is (codes "A") 0 true ∷ []) (One 0 ∷ []) First (Time (pos 10)) (EveryTime (pos 5))) (event 1 0 ∷ event 100 0 ∷ []) ≡ codes "w=1 m=1 A=1 used=1\nw=2 m=2 A=2 used=2\n"
unfolding digits
spans_share_their_first = refl

-- the same, with nothing consumed
spans_consume_nothing : written (plan (is (codes "A") 0 false ∷ []) (One 0 ∷ []) First (Time (pos 10)) (EveryTime (pos 5))) (event 1 0 ∷ event 100 0 ∷ []) ≡ codes "w=1 m=1 A=1 used=-\nw=2 m=2 A=2 used=-\nw=3 m=3 A=2 used=-\n"
unfolding digits
spans_consume_nothing = refl

-- each A opens a window
opened_by_predicate : written (plan (names_ab true true) a_then_b First (Events 4) (When (Test Equal (Column 1) (Word 0)))) (events (0 ∷ 0 ∷ 1 ∷ 1 ∷ [])) ≡ codes "w=1 m=1 A=1 B=3 used=1,3\nw=2 m=2 A=2 B=4 used=2,4\n"
unfolding digits
opened_by_predicate = refl

-- the second run holds event 3 too, and is abandoned
abandoned_by_consumption : written (plan names_abc (One 0 ∷ One 1 ∷ One 2 ∷ []) Each (Events 4) (EveryEvents 2)) (events (0 ∷ 0 ∷ 1 ∷ 2 ∷ [])) ≡ codes "w=1 m=1 A=1 B=3 C=4 used=1,3,4\n"
unfolding digits
abandoned_by_consumption = refl

-- an event that the first window bound to B is no A of the second one
taken_under_another_name : written (plan (is (codes "A") 0 true ∷ is (codes "B") 0 true ∷ []) a_then_b First (Events 3) (EveryEvents 1)) (events (0 ∷ 0 ∷ 0 ∷ [])) ≡ codes "w=1 m=1 A=1 B=2 used=1,2\n"
unfolding digits
taken_under_another_name = refl

-- the names of a set in any order
set_in_any_order : written (plan names_abc (Set 0 2 ∷ One 2 ∷ []) First (Events 4) (EveryEvents 2)) (events (1 ∷ 0 ∷ 2 ∷ [])) ≡ codes "w=1 m=1 A=2 B=1 C=3 used=1,2,3\n"
unfolding digits
set_in_any_order = refl

-- at most 64 runs are open under EACH, so the 65th event begins none
abbrev crowded : List Match
crowded = (whole (plan (names_ab true false) a_then_b Each (Events 70) (EveryEvents 70)) (events (replicate 65 0 ++ 1 ∷ [])) true).matches

sixty_four_runs : length crowded ≡ 64
sixty_four_runs = refl

sixty_fourth_line : text (plan (names_ab true false) a_then_b Each (Events 70) (EveryEvents 70)) (drop 63 crowded) ≡ codes "w=1 m=64 A=64 B=66 used=64\n"
unfolding digits
sixty_fourth_line = refl
