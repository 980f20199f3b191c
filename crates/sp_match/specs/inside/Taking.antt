-- The name under which a run takes an event, step by step.
use Rattle.std.specs.Prelude.{◌≡◌, ℕ, ◌+◌, ◌==◌, Bool, false, not, List, length, Option, Some, None, filter, find, is_some, slice_index_or, if◌then◌else◌}
use Rattle.std.specs.List.{last_or, list_any}
use Rattle.sp_plan.specs.declared.plan.Element.{Element}
use Rattle.sp_plan.specs.declared.plan.Element.TheVariants.{Never}
use Rattle.sp_plan.specs.declared.plan.Plan.{Plan}
use Rattle.sp_plan.specs.Runs.{Pair, guards, is_filled, is_plus, unbound}
use Rattle.sp_match.specs.declared.run.Ahead.{Ahead}
use Rattle.sp_match.specs.inside.Kept.{Kept}

-- the first element that a run of these pairs hasn't filled
abbrev pub next_element : Plan → List Pair → Option Element
next_element q r = find (λ element. not (is_filled r element)) q.elements

-- the first name of the element that the run lacks and that passes
abbrev pub first_lacked : (ℕ → Bool) → List Pair → Option Element → Option ℕ
first_lacked passes r element = find passes (unbound r element)

-- the name of a pair, where it may be bound more than once
abbrev pub again_name : List Element → Option Pair → Option ℕ
again_name elements None = None
again_name elements (Some pair) = if list_any (is_plus pair.name) elements then Some pair.name else None

-- the last name of a run of these pairs, where it may be bound more than once
abbrev pub last_again : Plan → List Pair → Option ℕ
last_again q r = again_name q.elements (last_or None r)

-- the name of an element that is negated
abbrev pub negated_name : Element → Option ℕ
negated_name (Never name) = Some name
negated_name element = None

-- how many of these elements are negated
abbrev pub negated_count : List Element → ℕ
negated_count elements = length (filter (λ element. is_some (negated_name element)) elements)

-- whether an element is the name, negated
abbrev pub is_never : ℕ → Element → Bool
is_never name (Never a) = a == name
is_never name element = false

-- the first of these names, which are numbered in a row, and the number behind the last
abbrev pub range_of : List ℕ → ℕ × ℕ
range_of names = (slice_index_or names 0 0, slice_index_or names 0 0 + length names)

-- the names that guard a run of these pairs, as such a range
abbrev pub guard_range : Plan → List Pair → ℕ × ℕ
guard_range q r = range_of (guards q r)

-- what counts for a run of these pairs next is so: the first element that it hasn't filled, its last name once more, and the names that guard it
abbrev pub IsAhead : Plan → List Pair → Ahead → Type 0
IsAhead q r ahead = (ahead.element ≡ next_element q r) × (ahead.again ≡ last_again q r) × (ahead.guards ≡ guard_range q r)

-- whether this is the name
abbrev pub is_again : ℕ → Option ℕ → Bool
is_again name None = false
is_again name (Some again) = again == name

-- what a run may take next where that is known and it may bind the name once more
abbrev pub ahead_if : ℕ → Option Ahead → Option Ahead
ahead_if name None = None
ahead_if name (Some ahead) = if is_again name ahead.again then Some ahead else None

-- so of a run
abbrev pub ahead_still : ℕ → Kept → Option Ahead
ahead_still name k = ahead_if name k.ahead

-- the name, where it passes
abbrev pub once_more : (ℕ → Bool) → Option ℕ → Option ℕ
once_more passes None = None
once_more passes (Some name) = if passes name then Some name else None
