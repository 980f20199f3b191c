-- What every run of a matcher keeps.
use Rattle.std.specs.Prelude.{◌≡◌, ◌⊎◌, ℕ, ◌+◌, ◌<◌, ◌≤◌, false, List, IfSome, length, map, slice_index_or}
use Rattle.std.specs.List.{All, AllPairs, filter}
use Rattle.sp_plan.specs.declared.plan.Plan.{Plan}
use Rattle.sp_plan.specs.declared.plan.Element.{Element}
use Rattle.sp_plan.specs.declared.plan.Element.TheVariants.{One, Plus, Set, Never}
use Rattle.sp_plan.specs.Bounds.{AllSmall}
use Rattle.sp_plan.specs.Runs.{Pair, bound_names, is_bound, used}
use Rattle.sp_match.specs.inside.Kept.{Kept, CanUndo, before, pairs}
use Rattle.sp_match.specs.inside.Taking.{IsAhead}

-- the names of an element are below 32
abbrev pub IsNamed : Element → Type 0
IsNamed (One name) = name < 32
IsNamed (Plus name) = name < 32
IsNamed (Set first count) = (first + count ≤ 32) ⊎ (count ≡ 0)
IsNamed (Never name) = name < 32

-- how many names of the plan a run of these pairs has bound
abbrev pub bound_count : Plan → List Pair → ℕ
bound_count q r = length (filter (is_bound r) (bound_names q))

-- The parts of a run fit together: the events, the flags and their count are those of its pairs, what it may take next is so where it
-- is known, the numbers rise, and it would use those of consumed names.
pub record Good (q : Plan) (k : Kept) : Type 0 where
  pub same_names : map (λ p. p.0) k.bound ≡ map (λ p. p.0) k.events
  pub named : All (λ p. p.0 < length q.names) k.bound
  pub flags : length k.names ≡ 32
  pub marks : (name : ℕ) → name < 32 → slice_index_or k.names name false ≡ is_bound (pairs k) name
  pub counted : k.bound_names ≡ bound_count q (pairs k)
  pub ahead_is : IfSome k.ahead (λ ahead. IsAhead q (pairs k) ahead)
  pub used_is : k.used ≡ used q (pairs k)
  pub rising : AllPairs (λ m n. m < n) (map (λ p. p.1) k.bound)
  pub small : AllSmall k.events
  pub undoes : CanUndo k

-- All numbers that a run holds are below n.
abbrev pub NumbersBelow : ℕ → Kept → Type 0
NumbersBelow n k = All (λ m. m < n) (map (λ p. p.1) k.bound)

-- The run keeps what every run keeps, and is as before where the event of the number n is undone.
pub record RunUndoes (q : Plan) (n : ℕ) (old new : Kept) : Type 0 where
  pub good : Good q new
  pub before : before n new ≡ before n old

-- The same of all runs.
pub record Undoes (q : Plan) (n : ℕ) (old new : List Kept) : Type 0 where
  pub good : All (Good q) new
  pub before : map (before n) new ≡ map (before n) old
