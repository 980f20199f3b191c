-- Sides of comparisons that read nothing of the event at hand: what they come to is kept for each run, and compared with the event.
use Rattle.std.specs.Prelude.{◌≡◌, ℕ, ◌==◌, length, slice_index_or, ℤ, pos, ◌<◌, ◌+◌, ◌^◌, ◌-◌, take, drop, Bool, true, false, ◌||◌, List, [], ◌∷◌, ◌++◌, map, unsigned_abs, if◌then◌else◌}
use Rattle.std.specs.Int.{saturate_to_bits}
use Rattle.std.specs.List.{list_any}
use Rattle.sp_plan.specs.declared.event.Event.{Event}
use Rattle.sp_plan.specs.declared.held.Sides.{Sides}
use Rattle.sp_plan.specs.declared.held.Sides.TheVariants.{Near, LeftHeld, RightHeld, Mixed}
use Rattle.sp_plan.specs.declared.plan.Compare.{Compare}
use Rattle.sp_plan.specs.declared.plan.Compare.TheVariants.{Equal, Unequal, Less, AtMost, Greater, AtLeast}
use Rattle.sp_plan.specs.declared.plan.Expr.{Expr, Literal, Word, Column, Earlier, Raise', Minus', Add', Sub', Mul'}
use Rattle.sp_plan.specs.declared.plan.Pred.{Pred, Always, Test, And', Or', Not'}
use Rattle.sp_plan.specs.Known.{reads_bound}
use Rattle.sp_plan.specs.Values.{BoundEvents, last_bound, value}

-- whether an expression reads a column of the event at hand
abbrev pub reads_event : Expr → Bool
reads_event (Literal n) = false
reads_event (Word s) = false
reads_event (Column c) = true
reads_event (Earlier name c) = false
reads_event (Raise' by p inner) = reads_event inner
reads_event (Minus' p inner) = reads_event inner
reads_event (Add' p left q right) = reads_event left || reads_event right
reads_event (Sub' p left q right) = reads_event left || reads_event right
reads_event (Mul' p left q right) = reads_event left || reads_event right

-- whether it reads an event that is bound to the name
abbrev pub reads_name : ℕ → Expr → Bool
reads_name name (Literal n) = false
reads_name name (Word s) = false
reads_name name (Column c) = false
reads_name name (Earlier other c) = other == name
reads_name name (Raise' by p inner) = reads_name name inner
reads_name name (Minus' p inner) = reads_name name inner
reads_name name (Add' p left q right) = reads_name name left || reads_name name right
reads_name name (Sub' p left q right) = reads_name name left || reads_name name right
reads_name name (Mul' p left q right) = reads_name name left || reads_name name right

-- what two sides read, by which of them read a bound event and which the event at hand
abbrev pub sides_by : Bool → Bool → Bool → Bool → Sides
sides_by false false left right = Near
sides_by true false left right = if left then Mixed else LeftHeld
sides_by false true left right = if right then Mixed else RightHeld
sides_by true true left right = Mixed

-- what the sides of a comparison read
abbrev pub sides : Expr → Expr → Sides
sides left right = sides_by (reads_bound left) (reads_bound right) (reads_event left) (reads_event right)

-- the held side of a comparison, where it is parted
abbrev pub held_of : Sides → Expr → Expr → List Expr
held_of Near left right = []
held_of LeftHeld left right = left ∷ []
held_of RightHeld left right = right ∷ []
held_of Mixed left right = []

-- the held sides of the parted comparisons of a predicate, in the order in which the walk meets them: the right part of an AND and an OR first
abbrev pub held_sides : Pred → List Expr
held_sides Always = []
held_sides (Test by left right) = held_of (sides left right) left right
held_sides (And' p left q right) = held_sides right ++ held_sides left
held_sides (Or' p left q right) = held_sides right ++ held_sides left
held_sides (Not' p inner) = held_sides inner

-- whether one of them reads an event that is bound to the name
abbrev pub held_sides_read : ℕ → Pred → Bool
held_sides_read name p = list_any (reads_name name) (held_sides p)

-- an event with no column
abbrev pub blank : Event
blank = record { time = pos 0; values = [] }

-- a number, or of those with a sign that 64 bits hold the one next to it
abbrev pub saturated : ℤ → ℤ
saturated n = saturate_to_bits 63 n

-- what a held side comes to over the events that a run has bound
abbrev pub held_value : BoundEvents → Expr → ℤ
held_value b side = saturated (value side blank b)

-- so of each of some runs
abbrev pub held_column : List BoundEvents → Expr → List ℤ
held_column bounds side = map (λ b. held_value b side) bounds

-- for each held side of a predicate, what it comes to for each of these runs
abbrev pub held_columns : Pred → List BoundEvents → List (List ℤ)
held_columns p bounds = map (held_column bounds) (held_sides p)

-- a list with another element at the place; where there is none, with one more behind the others
abbrev pub put : {X : Type 0} → List X → ℕ → X → List X
put xs at x = take at xs ++ x ∷ drop (at + 1) xs

-- the same comparison, where its sides change places
abbrev pub turned : Compare → Compare
turned Equal = Equal
turned Unequal = Unequal
turned Less = Greater
turned AtMost = AtLeast
turned Greater = Less
turned AtLeast = AtMost

-- A number is less than what 64 bits hold at most, on both sides of 0.
abbrev pub IsInside : ℤ → Type 0
IsInside n = unsigned_abs n < 2 ^ 63 - 1

-- What held sides come to for some runs depends only on the last event that each has bound to each name that one of them reads.
abbrev pub HeldSidesStandAlone : Type 0
HeldSidesStandAlone = (p : Pred) (bounds others : List BoundEvents) → length bounds ≡ length others
    → ((run name : ℕ) → run < length bounds → held_sides_read name p ≡ true → last_bound name (slice_index_or bounds run []) ≡ last_bound name (slice_index_or others run []))
    → held_columns p bounds ≡ held_columns p others
