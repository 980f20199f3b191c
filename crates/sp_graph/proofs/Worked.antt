-- What matches give as events of a second query, tried on worked rows by computation.
use Rattle.std.proofs.Common.{◌≡◌, ℕ, pos, true, false, List, [], ◌∷◌, Box, Global, Some, None, refl, length, ◌==◌}
use Rattle.std.specs.Prelude.{codes}
use Rattle.std.specs.Fmt.{digits}
use Rattle.sp_plan.specs.declared.event.Event.{Event}
use Rattle.sp_plan.specs.declared.event.Value.TheVariants.{Number, Symbol}
use Rattle.sp_plan.specs.declared.plan.Plan.{Plan}
use Rattle.sp_plan.specs.declared.plan.Column.{Column}
use Rattle.sp_plan.specs.declared.plan.Kind.TheVariants.{Int, Dec, Text}
use Rattle.sp_plan.specs.declared.plan.Compare.TheVariants.{Equal}
use Rattle.sp_plan.specs.declared.plan.Select.TheVariants.{First}
use Rattle.sp_plan.specs.declared.plan.Element.TheVariants.{One, Plus}
use Rattle.sp_plan.specs.declared.plan.Length.TheVariants.{Events}
use Rattle.sp_plan.specs.declared.plan.Opening.TheVariants.{EveryEvents}
use Rattle.sp_plan.specs.declared.plan.Expr.{Expr, Literal, Word, Column as At, Earlier, Raise', Sub', Mul'}
use Rattle.sp_plan.specs.declared.plan.Pred.{Test}
use Rattle.sp_plan.specs.Lines.{text}
use Rattle.sp_plan.specs.Sequential.{whole}
use Rattle.sp_plan.proofs.Worked.{plan, events, names_ab, a_then_b}
use Rattle.sp_graph.specs.Derived.{Deriving, derived, with_given}

abbrev Own : Type 0
Own = Box (Unit {0}) Global

-- ---- two queries

-- A and then B, in windows of four events that begin at each second one; both are consumed, or none
abbrev first : Plan
first = plan (names_ab true true) a_then_b First (Events 4) (EveryEvents 2)

abbrev sharing : Plan
sharing = plan (names_ab false false) a_then_b First (Events 4) (EveryEvents 2)

-- A once or more and then B
abbrev several : Plan
several = plan (names_ab true true) (Plus 0 ∷ One 1 ∷ []) First (Events 4) (EveryEvents 4)

abbrev abab : List Event
abab = events (0 ∷ 1 ∷ 0 ∷ 1 ∷ [])

abbrev first_texts : List (List ℕ)
first_texts = codes "a" ∷ codes "b" ∷ codes "c" ∷ []

-- X AS gap = 1, Y AS key = 'a', in windows of two events side by side
abbrev second_of : List Column → List (List ℕ) → Plan
second_of columns texts = record {
  schema = record { columns = columns; time = None };
  names =
      (record { text = codes "X"; pred = Test Equal (At 0) (Literal (pos 1)); consumed = true })
      ∷ (record { text = codes "Y"; pred = Test Equal (At 1) (Word 0); consumed = true }) ∷ [];
  elements = One 0 ∷ One 1 ∷ [];
  select = First;
  length = Events 2;
  opening = EveryEvents 2;
  texts = texts;
}

abbrev gap_and_key : List Column
gap_and_key = (record { name = codes "gap"; kind = Int }) ∷ (record { name = codes "key"; kind = Text }) ∷ []

abbrev second : Plan
second = second_of gap_and_key (codes "a" ∷ [])

-- B.at - A.at AS gap, A.k AS key
abbrev returns : Own → Own → List Expr
returns p q = Sub' p (Earlier 1 0) q (Earlier 0 0) ∷ Earlier 0 1 ∷ []

-- what matches of the first query over events give
abbrev derived_of : List Expr → Plan → List Event → Plan → Deriving
derived_of exprs one es other = derived exprs es first_texts other (whole one es true).matches

-- what the second query writes of that
abbrev written_of : List Expr → Plan → List Event → Plan → List ℕ
written_of exprs one es other = text other (whole other (derived_of exprs one es other).events true).matches

-- an event of a number and a text
abbrev both : ℕ → ℕ → Event
both n symbol = record { time = pos 0; values = Number (pos n) ∷ Symbol symbol ∷ [] }

-- the matches in one window give an event each, and these a match
two_in_one_window : (p q : Own) → written_of (returns p q) first abab second ≡ codes "w=1 m=1 X=1 Y=2 used=1,2\n"
unfolding digits
two_in_one_window p q = refl

two_events : (p q : Own) → derived_of (returns p q) first abab second ≡ (record { events = both 1 0 ∷ both 1 0 ∷ []; texts = codes "a" ∷ []; limit = None })
two_events p q = refl

-- where nothing is consumed, the second window's match gives one too
nothing_consumed : (p q : Own) → (derived_of (returns p q) sharing abab second).events ≡ both 1 0 ∷ both 1 0 ∷ both 1 0 ∷ []
nothing_consumed p q = refl

-- of the events that are bound to one name the last counts
last_of_several : (p q : Own) → (derived_of (returns p q) several (events (0 ∷ 0 ∷ 1 ∷ [])) second).events ≡ both 1 0 ∷ []
last_of_several p q = refl

-- ---- texts

-- texts have their numbers by the second query first, and then in the order in which they appear: b is new, and known when it comes again
by_second_query : (derived_of (Earlier 0 0 ∷ Earlier 1 1 ∷ []) first abab second).events ≡ both 1 1 ∷ both 3 1 ∷ []
by_second_query = refl

new_texts : (derived_of (Earlier 0 1 ∷ Earlier 1 1 ∷ []) first abab (second_of ((record { name = codes "x"; kind = Text }) ∷ (record { name = codes "y"; kind = Text }) ∷ []) (codes "c" ∷ []))).texts
    ≡ codes "c" ∷ codes "a" ∷ codes "b" ∷ []
new_texts = refl

-- a text of the list of items
literal : (derived_of (Literal (pos 7) ∷ Word 2 ∷ []) first abab second).events ≡ both 7 1 ∷ both 7 1 ∷ []
literal = refl

-- ---- numbers

-- a whole number in a column of two decimals
raised : (p : Own) → (derived_of (Raise' 2 p (Earlier 1 0) ∷ Earlier 0 1 ∷ []) first abab
    (second_of ((record { name = codes "gap"; kind = Dec 2 }) ∷ (record { name = codes "key"; kind = Text }) ∷ []) (codes "a" ∷ []))).events ≡ both 200 0 ∷ both 400 0 ∷ []
raised p = refl

-- ---- limits

-- B.at times a number: the first match passes the limit
abbrev times : Own → Own → ℕ → List Expr
times p q n = Mul' p (Earlier 1 0) q (Literal (pos n)) ∷ Earlier 0 1 ∷ []

past_the_limit : (p q : Own) → derived_of (times p q 1000000000000000) first abab second ≡ (record { events = []; texts = codes "a" ∷ []; limit = Some 1000000000000000 })
past_the_limit p q = refl

-- 2 times 500,000,000,000,000 is at the limit, and the second match, of 4 times that, passes it
at_the_limit : (p q : Own) → (derived_of (times p q 500000000000000) first abab second).events ≡ both 1000000000000000 0 ∷ []
at_the_limit p q = refl

-- below nought likewise: 1 - 1,000,000,000,000,001 is at the limit, and one less passes it
abbrev less : Own → Own → ℕ → List Expr
less p q n = Sub' p (Earlier 0 0) q (Literal (pos n)) ∷ Earlier 0 1 ∷ []

below_nought : (p q : Own) → (derived_of (less p q 1000000000000001) first (events (0 ∷ 1 ∷ [])) second).limit ≡ None
below_nought p q = refl

past_below_nought : (p q : Own) → (derived_of (less p q 1000000000000002) first (events (0 ∷ 1 ∷ [])) second).limit ≡ Some 1000000000000000
past_below_nought p q = refl

-- a value past its limit is answered even where there are as many events as may be
value_before_count : (d : Deriving) → (with_given first_texts d (Number (pos 1000000000000001) ∷ [])).limit ≡ Some 1000000000000000
value_before_count d = refl

no_more_events : (d : Deriving) → (length d.events == 1048576) ≡ true → (with_given first_texts d (Number (pos 7) ∷ [])).limit ≡ Some 1048576
no_more_events d full = rw full refl
