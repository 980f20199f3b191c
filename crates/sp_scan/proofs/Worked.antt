-- The matches of a window tried on worked rows, by computation: a query with one event or more, a negated name and a set, of which some
-- names are consumed.
use Rattle.std.proofs.Common.{◌≡◌, ℕ, pos, Bool, true, false, List, [], ◌∷◌, map, None, refl}
use Rattle.sp_plan.specs.declared.event.Event.{Event}
use Rattle.sp_plan.specs.declared.event.Value.TheVariants.{Number}
use Rattle.sp_plan.specs.declared.plan.Compare.TheVariants.{Equal}
use Rattle.sp_plan.specs.declared.plan.Element.TheVariants.{One, Plus, Set, Never}
use Rattle.sp_plan.specs.declared.plan.Expr.{Literal, Column}
use Rattle.sp_plan.specs.declared.plan.Kind.TheVariants.{Int}
use Rattle.sp_plan.specs.declared.plan.Length.TheVariants.{Events}
use Rattle.sp_plan.specs.declared.plan.Name.{Name}
use Rattle.sp_plan.specs.declared.plan.Opening.TheVariants.{EveryEvents}
use Rattle.sp_plan.specs.declared.plan.Plan.{Plan}
use Rattle.sp_plan.specs.declared.plan.Pred.{Test}
use Rattle.sp_plan.specs.declared.plan.Select.{Select}
use Rattle.sp_plan.specs.declared.plan.Select.TheVariants.{First, Last, Each}
use Rattle.sp_scan.specs.declared.found.Found.{Found}
use Rattle.sp_scan.specs.Scanning.{scanned_of}

-- a name whose events have this number
abbrev is : ℕ → ℕ → Bool → Name
is letter number consumed = record { text = letter ∷ []; pred = Test Equal (Column 0) (Literal (pos number)); consumed = consumed }

-- PATTERN (A B+ NOT N {C D}), each name by its own number; A and C are consumed
abbrev example : Select → Plan
example select = record {
  schema = record { columns = (record { name = 120 ∷ []; kind = Int }) ∷ []; time = None };
  names = is 65 1 true ∷ is 66 2 false ∷ is 78 9 false ∷ is 67 3 true ∷ is 68 4 false ∷ [];
  elements = One 0 ∷ Plus 1 ∷ Never 2 ∷ Set 3 2 ∷ [];
  select = select;
  length = Events 20;
  opening = EveryEvents 20;
  texts = [];
}

abbrev event : ℕ → Event
event number = record { time = pos 0; values = Number (pos number) ∷ [] }

-- A B A B D N C C A B N C D
abbrev events : List Event
events = map event (1 ∷ 2 ∷ 1 ∷ 2 ∷ 4 ∷ 9 ∷ 3 ∷ 3 ∷ 1 ∷ 2 ∷ 9 ∷ 3 ∷ 4 ∷ [])

-- a match: the numbers under A, B, C and D, and those used
abbrev match : List ℕ → List ℕ → List ℕ → List ℕ → List ℕ → Found
match a b c d used = record { bound = (0, a) ∷ (1, b) ∷ (3, c) ∷ (4, d) ∷ []; used = used }

-- two runs, the younger of which isn't offered the C that the older one used; the third is abandoned by the second N
each : scanned_of (example Each) events 1 13 [] ≡ match (1 ∷ []) (2 ∷ 4 ∷ []) (7 ∷ []) (5 ∷ []) (1 ∷ 7 ∷ []) ∷ match (3 ∷ []) (4 ∷ []) (8 ∷ []) (5 ∷ []) (3 ∷ 8 ∷ []) ∷ []
each = refl

first : scanned_of (example First) events 1 13 [] ≡ match (1 ∷ []) (2 ∷ 4 ∷ []) (7 ∷ []) (5 ∷ []) (1 ∷ 7 ∷ []) ∷ []
first = refl

-- the second A takes the place of the first
last : scanned_of (example Last) events 1 13 [] ≡ match (3 ∷ []) (4 ∷ []) (7 ∷ []) (5 ∷ []) (3 ∷ 7 ∷ []) ∷ []
last = refl

-- without the second B the first run takes the later one, and without the second N the third run matches too
skipped : scanned_of (example First) events 1 13 (2 ∷ 11 ∷ []) ≡ match (1 ∷ []) (4 ∷ []) (7 ∷ []) (5 ∷ []) (1 ∷ 7 ∷ []) ∷ match (9 ∷ []) (10 ∷ []) (12 ∷ []) (13 ∷ []) (9 ∷ 12 ∷ []) ∷ []
skipped = refl

-- a part of the events, and none
part : scanned_of (example Each) events 2 7 [] ≡ match (3 ∷ []) (4 ∷ []) (7 ∷ []) (5 ∷ []) (3 ∷ 7 ∷ []) ∷ []
part = refl

none : scanned_of (example Each) events 5 4 [] ≡ []
none = refl
