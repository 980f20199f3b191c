-- Negated names tried on worked rows, by computation.
use Rattle.std.proofs.Common.{◌≡◌, ℕ, pos, Bool, true, false, List, [], ◌∷◌, Some, Box, Global, refl}
use Rattle.std.specs.Prelude.{codes}
use Rattle.std.specs.Fmt.{digits}
use Rattle.sp_plan.specs.declared.plan.Plan.{Plan}
use Rattle.sp_plan.specs.declared.plan.Name.{Name}
use Rattle.sp_plan.specs.declared.plan.Compare.TheVariants.{Equal, Greater}
use Rattle.sp_plan.specs.declared.plan.Select.{Select}
use Rattle.sp_plan.specs.declared.plan.Select.TheVariants.{First, Last, Each}
use Rattle.sp_plan.specs.declared.plan.Element.{Element}
use Rattle.sp_plan.specs.declared.plan.Element.TheVariants.{One, Plus, Set, Never}
use Rattle.sp_plan.specs.declared.plan.Length.TheVariants.{Events}
use Rattle.sp_plan.specs.declared.plan.Opening.TheVariants.{EveryEvents}
use Rattle.sp_plan.specs.declared.plan.Expr.{Literal, Word, Column, Earlier, Add'}
use Rattle.sp_plan.specs.declared.plan.Pred.{Pred, Always, Test, And', Or'}
use Rattle.sp_plan.specs.Windows.{numbered}
use Rattle.sp_plan.specs.Runs.{guards, state}
use Rattle.sp_plan.specs.Moves.{Told, OpenedTold, GrownTold, CompletedTold, AbandonedTold}
use Rattle.sp_plan.proofs.Worked.{plan, is, event, events, written}
use Rattle.sp_plan.proofs.WorkedMoves.{then_told, then_wanted}

-- the symbols of these texts
abbrev a : ℕ
a = 0

abbrev b : ℕ
b = 1

abbrev c : ℕ
c = 2

abbrev n : ℕ
n = 3

abbrev m : ℕ
m = 4

abbrev x : ℕ
x = 5

-- what a query writes that has windows of so many events from every second one on
abbrev in_fours : List Name → List Element → Select → List ℕ → List ℕ
in_fours names elements select symbols = written (plan names elements select (Events 4) (EveryEvents 2)) (events symbols)

-- what it writes of one window
abbrev in_one : List Name → List Element → Select → List ℕ → List ℕ
in_one names elements select symbols = written (plan names elements select (Events 10) (EveryEvents 10)) (events symbols)

-- the negated name N
abbrev never : Pred → Name
never pred = record { text = codes "N"; pred = pred; consumed = false }

abbrev of_text : ℕ → Pred
of_text symbol = Test Equal (Column 1) (Word symbol)

-- the names of `(A !N B)`, of which B is consumed or not
abbrev names_anb : Pred → Bool → List Name
names_anb pred second = is (codes "A") a true ∷ never pred ∷ is (codes "B") b second ∷ []

-- A !N B
abbrev not_between : List Element
not_between = One 0 ∷ Never 1 ∷ One 2 ∷ []

-- the names of `(A B+ !N C)`
abbrev names_abnc : Pred → List Name
names_abnc pred = is (codes "A") a true ∷ is (codes "B") b true ∷ never pred ∷ is (codes "C") c true ∷ []

-- A B+ !N C
abbrev not_behind_many : List Element
not_behind_many = One 0 ∷ Plus 1 ∷ Never 2 ∷ One 3 ∷ []

-- SET(A B) !N C
abbrev not_behind_set : List Element
not_behind_set = Set 0 2 ∷ Never 2 ∷ One 3 ∷ []

-- ---- a run and its guard

-- N abandons the run; the next window has an A behind it
abandoned : in_fours (names_anb (of_text n) true) not_between First (a ∷ n ∷ b ∷ a ∷ b ∷ []) ≡ codes "w=2 m=1 A=4 B=5 used=4,5\n"
unfolding digits
abandoned = refl

-- under FIRST no run starts with the event that abandons the open one
first_starts_none : in_fours (names_anb (of_text a) true) not_between First (a ∷ a ∷ b ∷ []) ≡ codes ""
unfolding digits
first_starts_none = refl

-- under LAST one does
last_starts_one : in_fours (names_anb (of_text a) true) not_between Last (a ∷ a ∷ b ∷ []) ≡ codes "w=1 m=1 A=2 B=3 used=2,3\n"
unfolding digits
last_starts_one = refl

-- N stands behind the last B
behind_many : in_fours (names_abnc (of_text n)) not_behind_many First (a ∷ b ∷ n ∷ c ∷ []) ≡ codes ""
unfolding digits
behind_many = refl

no_guard_met : in_fours (names_abnc (of_text n)) not_behind_many First (a ∷ b ∷ b ∷ c ∷ []) ≡ codes "w=1 m=1 A=1 B=2,3 C=4 used=1,2,3,4\n"
unfolding digits
no_guard_met = refl

-- an event that the run takes is not held against it
taken_first : in_one (names_abnc (of_text b)) not_behind_many First (a ∷ b ∷ b ∷ c ∷ []) ≡ codes "w=1 m=1 A=1 B=2,3 C=4 used=1,2,3,4\n"
unfolding digits
taken_first = refl

-- in front of N nothing is held against the run
in_front : in_one (names_abnc (of_text n)) not_behind_many First (a ∷ n ∷ b ∷ c ∷ []) ≡ codes "w=1 m=1 A=1 B=3 C=4 used=1,3,4\n"
unfolding digits
in_front = refl

-- any event is an N: B comes right behind A
right_behind : in_one (names_anb Always true) not_between First (a ∷ x ∷ b ∷ a ∷ b ∷ []) ≡ codes "w=1 m=1 A=4 B=5 used=4,5\n"
unfolding digits
right_behind = refl

right_behind_each : in_one (names_anb Always true) not_between Each (a ∷ a ∷ b ∷ a ∷ b ∷ []) ≡ codes "w=1 m=1 A=2 B=3 used=2,3\nw=1 m=2 A=4 B=5 used=4,5\n"
unfolding digits
right_behind_each = refl

right_behind_last : in_one (names_anb Always true) not_between Last (a ∷ a ∷ b ∷ a ∷ b ∷ []) ≡ codes "w=1 m=1 A=2 B=3 used=2,3\nw=1 m=2 A=4 B=5 used=4,5\n"
unfolding digits
right_behind_last = refl

-- two negated names between the same elements
second_guard : in_one (is (codes "A") a true ∷ never (of_text n) ∷ is (codes "M") m false ∷ is (codes "B") b true ∷ []) (One 0 ∷ Never 1 ∷ Never 2 ∷ One 3 ∷ []) First (a ∷ x ∷ m ∷ b ∷ []) ≡ codes ""
unfolding digits
second_guard = refl

-- a set has to be full before N is held against the run
set_not_full : in_one (names_abnc (of_text n)) not_behind_set First (a ∷ n ∷ b ∷ c ∷ []) ≡ codes "w=1 m=1 A=1 B=3 C=4 used=1,3,4\n"
unfolding digits
set_not_full = refl

set_full : in_one (names_abnc (of_text n)) not_behind_set First (a ∷ b ∷ n ∷ c ∷ []) ≡ codes ""
unfolding digits
set_full = refl

-- N reads the event of A
reads_earlier : in_one (names_anb (Test Equal (Column 1) (Earlier 0 1)) true) not_between First (a ∷ a ∷ b ∷ []) ≡ codes ""
unfolding digits
reads_earlier = refl

abbrev Own : Type 0
Own = Box (Unit {0}) Global

-- under EACH each A abandons the run of the one before, and begins its own
each_begins_anew : (p q : Own) → in_one (names_anb (Or' p (of_text n) q (of_text a)) false) not_between Each (a ∷ a ∷ a ∷ b ∷ []) ≡ codes "w=1 m=1 A=3 B=4 used=3\n"
unfolding digits
each_begins_anew p q = refl

-- ---- what was used is not seen

-- C comes two or more behind A, and N is each c that is not taken
abbrev names_anc : Own → Own → Own → Own → Bool → List Name
names_anc p q r s consumed =
    is (codes "A") a consumed ∷ never (of_text c)
    ∷ (record { text = codes "C"; pred = And' p (of_text c) q (Test Greater (Column 0) (Add' r (Earlier 0 0) s (Literal (pos 1)))); consumed = consumed }) ∷ []

used_guards_nothing : (p q r s : Own) → in_fours (names_anc p q r s true) not_between First (a ∷ x ∷ a ∷ c ∷ x ∷ c ∷ []) ≡ codes "w=1 m=1 A=1 C=4 used=1,4\nw=2 m=2 A=3 C=6 used=3,6\n"
unfolding digits
used_guards_nothing p q r s = refl

seen_again : (p q r s : Own) → in_fours (names_anc p q r s false) not_between First (a ∷ x ∷ a ∷ c ∷ x ∷ c ∷ []) ≡ codes "w=1 m=1 A=1 C=4 used=-\n"
unfolding digits
seen_again p q r s = refl

-- ---- move by move

abbrev anb : Pred → Select → Plan
anb pred select = plan (names_anb pred true) not_between select (Events 9) (EveryEvents 9)

-- both open runs are abandoned at their turns, the older first
both_abandoned : then_told (anb (of_text n) Each) (a ∷ a ∷ []) 3 n ≡ AbandonedTold 1 ∷ AbandonedTold 2 ∷ []
both_abandoned = refl

-- the run that a guard ends has made room for the one that the same event starts
makes_room : then_told (anb (of_text a) Each) (a ∷ []) 2 a ≡ AbandonedTold 1 ∷ OpenedTold 2 ∷ GrownTold 2 2 ∷ []
makes_room = refl

-- the older run uses the event, which is held against the younger one no more
used_in_handling : then_told (anb (of_text b) Each) (a ∷ a ∷ []) 3 b ≡ GrownTold 1 3 ∷ CompletedTold 1 ((0, 1 ∷ []) ∷ (2, 3 ∷ []) ∷ []) (1 ∷ 3 ∷ []) ∷ []
used_in_handling = refl

-- no event is wanted for a negated name
not_wanted : then_wanted (anb (of_text n) Each) (a ∷ []) 2 x ≡ (1, 1) ∷ []
not_wanted = refl

-- ---- the names that guard a run

-- of a run of one event, of a run of none, and of one that has all
guards_of_one : guards (anb (of_text n) First) ((record { name = 0; number = 1; event = event 1 a }) ∷ []) ≡ 1 ∷ []
guards_of_one = refl

guards_of_none : guards (anb (of_text n) First) [] ≡ []
guards_of_none = refl

guards_of_all : guards (anb (of_text n) First) ((record { name = 0; number = 1; event = event 1 a }) ∷ (record { name = 2; number = 2; event = event 2 b }) ∷ []) ≡ []
guards_of_all = refl
