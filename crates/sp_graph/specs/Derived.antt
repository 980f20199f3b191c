-- What the matches of one query give as events of a second.
use Rattle.std.specs.Prelude.{ℕ, ℤ, pos, ◌-◌, Bool, false, List, [], ◌∷◌, ◌++◌, length, map, Option, None, Some, is_some, slice_get, slice_index_or, ◌==◌, nat_lt, unsigned_abs, if◌then◌else◌}
use Rattle.std.specs.List.{fold, flat_map, filter_map, list_any, zip}
use Rattle.sp_base.specs.Limits.{event_limit, number_limit}
use Rattle.sp_plan.specs.declared.event.Event.{Event}
use Rattle.sp_plan.specs.declared.event.Value.{Value}
use Rattle.sp_plan.specs.declared.event.Value.TheVariants.{Number, Symbol}
use Rattle.sp_plan.specs.declared.plan.Column.{Column}
use Rattle.sp_plan.specs.declared.plan.Kind.{Kind}
use Rattle.sp_plan.specs.declared.plan.Kind.TheVariants.{Int, Dec, Text}
use Rattle.sp_plan.specs.declared.plan.Expr.{Expr}
use Rattle.sp_plan.specs.declared.plan.Plan.{Plan}
use Rattle.sp_plan.specs.declared.found.Match.{Match}
use Rattle.sp_plan.specs.Texts.{symbol_of, with_text}
use Rattle.sp_plan.specs.Values.{BoundEvents, value}

-- the event of a number, counted from 1, where it is there
abbrev pub numbered_event : List Event → ℕ → Option Event
numbered_event events number = slice_get events (number - 1)

-- the events that are bound to a name, each with the name
abbrev pub bound_to : List Event → ℕ × List ℕ → BoundEvents
bound_to events pair = map (λ e. (pair.0, e)) (filter_map (numbered_event events) pair.1)

-- the events that a match binds, in the order of its names; expressions read the last one of a name
abbrev pub bound_of : List Event → Match → BoundEvents
bound_of events m = flat_map (bound_to events) m.bound

-- No event is at hand: one without values stands for it.
abbrev pub nothing : Event
nothing = record { time = pos 0; values = [] }

-- what an expression comes to, as a value of a column of this kind
abbrev pub value_of : Kind → ℤ → Value
value_of Int n = Number n
value_of (Dec digits) n = Number n
value_of Text n = Symbol (unsigned_abs n)

-- what an expression for a column gives over the events that a match binds; a text has its number in the first input
abbrev pub given_in : BoundEvents → Column × Expr → Value
given_in bound pair = value_of pair.0.kind (value pair.1 nothing bound)

-- what a match gives in the columns of the second query
abbrev pub given : List Column → List Expr → BoundEvents → List Value
given columns returns bound = map (given_in bound) (zip columns returns)

-- whether a value is a number past 10 to the power of 15 in magnitude
abbrev pub is_past : Value → Bool
is_past (Number n) = nat_lt number_limit (unsigned_abs n)
is_past (Symbol s) = false

-- the text that has a number in the first input; a number that none has is the empty text's
abbrev pub text_at : List (List ℕ) → ℕ → List ℕ
text_at texts symbol = slice_index_or texts symbol []

-- a value of the second input, and the texts of that after it: a text has its number among those so far
abbrev pub placed : List (List ℕ) → List (List ℕ) → Value → Value × List (List ℕ)
placed texts known (Number n) = (Number n, known)
placed texts known (Symbol symbol) = (Symbol (symbol_of known (text_at texts symbol)), with_text known (text_at texts symbol))

-- values with one more, and the texts after it
abbrev pub with_value : List (List ℕ) → List Value × List (List ℕ) → Value → List Value × List (List ℕ)
with_value texts s own = (s.0 ++ (placed texts s.1 own).0 ∷ [], (placed texts s.1 own).1)

-- values whose texts have their numbers in the second input, and the texts after them
abbrev pub renumbered : List (List ℕ) → List (List ℕ) → List Value → List Value × List (List ℕ)
renumbered texts known values = fold (with_value texts) ([], known) values

-- the event of a match that gives these values, and the texts after it
abbrev pub event_of : List (List ℕ) → List (List ℕ) → List Value → Event × List (List ℕ)
event_of texts known values =
    (record { time = pos 0; values = (renumbered texts known values).0 }, (renumbered texts known values).1)

-- how far the matches were taken: the events, the texts of the second input by their numbers, and the limit that was passed, if one was
pub record Deriving : Type 0 where
  pub events : List Event
  pub texts : List (List ℕ)
  pub limit : Option ℕ

-- no match was taken; the texts of the second query have the first numbers
abbrev pub start : Plan → Deriving
start second = record { events = []; texts = fold with_text [] second.texts; limit = None }

-- no later match counts
abbrev pub stopped_by : Deriving → ℕ → Deriving
stopped_by d limit = record d { limit = Some limit }

-- one event more
abbrev pub with_event : Deriving → Event × List (List ℕ) → Deriving
with_event d made = record d { events = d.events ++ made.0 ∷ []; texts = made.1 }

-- a match that gives these values: they are held against their limit first, and then the events against theirs
abbrev pub with_given : List (List ℕ) → Deriving → List Value → Deriving
with_given texts d values =
    if list_any is_past values then stopped_by d number_limit
    else if length d.events == event_limit then stopped_by d event_limit
    else with_event d (event_of texts d.texts values)

-- one match more; after a limit was passed no match counts
abbrev pub with_match : List Expr → List Event → List (List ℕ) → Plan → Deriving → Match → Deriving
with_match returns events texts second d m =
    if is_some d.limit then d
    else with_given texts d (given second.schema.columns returns (bound_of events m))

-- The events that the matches of one query give to a second, up to the first match that passes a limit: by expressions over the events
-- that it binds, one for each column of the second query. The texts of the first input are listed by their numbers.
abbrev pub derived : List Expr → List Event → List (List ℕ) → Plan → List Match → Deriving
derived returns events texts second matches =
    fold (with_match returns events texts second) (start second) matches
