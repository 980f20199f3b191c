-- What a matcher keeps beside its open runs, and for which of them an event counts: in bits, of which bit i is that of the run at place i.
use Rattle.std.specs.Prelude.{◌≡◌, ℕ, ℤ, ◌<◌, ◌≤◌, Bool, true, false, ◌&&◌, List, [], ◌++◌, length, map, take, None, Some, IfSome, slice_index_or}
use Rattle.std.specs.Option.{option_map}
use Rattle.std.specs.List.{last_or, list_any}
use Rattle.sp_base.specs.Numbers.{is_among}
use Rattle.sp_plan.specs.declared.event.Event.{Event}
use Rattle.sp_plan.specs.declared.plan.Name.{Name}
use Rattle.sp_plan.specs.declared.plan.Plan.{Plan}
use Rattle.sp_plan.specs.Held.{held_columns, held_sides_read}
use Rattle.sp_plan.specs.Masks.{has}
use Rattle.sp_plan.specs.Runs.{Run, bound_events, guarded, guards, name_holds, takes, wanted}
use Rattle.sp_plan.specs.Values.{BoundEvents, last_bound}
use Rattle.sp_match.specs.declared.holdings.Holding.{Holding}
use Rattle.sp_match.specs.declared.holdings.Holdings.{Holdings}
use Rattle.sp_match.specs.declared.takers.Takers.{Takers}
use Rattle.sp_match.specs.inside.Kept.{Kept, but_last, last_under}
use Rattle.sp_match.specs.inside.Good.{Undoes}
use Rattle.sp_match.specs.inside.Going.{IsIdle, IsSet}

-- the run at a place
abbrev pub run_in : List Run → ℕ → Run
run_in rs at = slice_index_or rs at []

-- the mask of a name
abbrev pub mask_of : List ℕ → ℕ → ℕ
mask_of masks name = slice_index_or masks name 0

-- the names whose predicates count for a run: those that it may take next, and those that guard it
abbrev pub asked : Plan → Run → List ℕ
asked q r = wanted q r ++ guards q r

-- whether the predicate of a name counts for a run
abbrev pub is_wanted : Plan → Run → ℕ → Bool
is_wanted q r name = is_among (asked q r) name

-- whether it does, and the event fulfils it
abbrev pub takes_under : Plan → Event → Run → ℕ → Bool
takes_under q e r name = is_wanted q r name && name_holds q r e name

-- The mask of each name is of the runs for which its predicate counts.
abbrev pub AreWanting : Plan → List Run → List ℕ → Type 0
AreWanting q rs masks = (name at : ℕ) → name < length q.names → at < length rs → has (mask_of masks name) at ≡ is_wanted q (run_in rs at) name

-- what the held sides of the predicates of these names come to for each of these runs
abbrev pub columns_over : List Run → List Name → List (List (List ℤ))
columns_over rs names = map (λ (name : Name). held_columns name.pred (map bound_events rs)) names

-- the masks that are kept
abbrev pub masks_of : List Holding → List ℕ
masks_of hs = map (λ (h : Holding). h.wanting) hs

-- whether a held side of a name's predicate reads an event that is bound to the first name
abbrev pub is_read_by : ℕ → Name → Bool
is_read_by name other = held_sides_read name other.pred

-- so of some name's predicate
abbrev pub is_read : Plan → ℕ → Bool
is_read q name = list_any (is_read_by name) q.names

-- of which names it is kept that they are read
abbrev pub reads_of : List Holding → List Bool
reads_of hs = map (λ (h : Holding). h.is_read) hs

-- what the held sides of a name's predicate come to for runs that have bound these events
abbrev pub columns_under : Plan → ℕ → List BoundEvents → List (List ℤ)
columns_under q name bounds = slice_index_or (map (λ (x : Name). held_columns x.pred bounds) q.names) name []

-- the columns that are kept
abbrev pub columns_of : List Holding → List (List (List ℤ))
columns_of hs = map (λ (h : Holding). h.columns.items) hs

-- What is kept is so of these runs.
pub record AreHeld (q : Plan) (rs : List Run) (hs : List Holding) : Type 0 where
  pub few : length rs ≤ 64
  pub wanting : AreWanting q rs (masks_of hs)
  pub columns : columns_of hs ≡ columns_over rs q.names
  pub reads : (name : ℕ) → name < length q.names → slice_index_or (reads_of hs) name true ≡ is_read q name

-- Where what is kept is fresh it is so of these runs.
abbrev pub IsHeld : Plan → List Run → Holdings → Type 0
IsHeld q rs h = h.is_fresh ≡ true → AreHeld q rs h.names.items

-- What is told of the run at a place is so where these are its pairs.
pub record IsTold (q : Plan) (e : Event) (t : Takers) (at : ℕ) (r : Run) : Type 0 where
  pub few : at < 64
  pub names : (name : ℕ) → has (mask_of t.masks.items name) at ≡ takes_under q e r name
  pub any : has t.any at ≡ false → takes q r e ≡ None
  pub calm : has t.any at ≡ false → guarded q r e ≡ false

-- So of each of these runs.
abbrev pub AreTold : Plan → Event → Takers → List Run → Type 0
AreTold q e t rs = (at : ℕ) → at < length rs → IsTold q e t at (run_in rs at)

-- A run has bound its last name once more, and no held side reads that.
pub record IsRepeated (q : Plan) (name : ℕ) (k : Kept) : Type 0 where
  pub again : option_map (λ (pair : ℕ × ℕ). pair.0) (last_or None (but_last k.bound)) ≡ Some name
  pub unread : is_read q name ≡ false

-- A run goes on as it was before the event of the number n: it stays, and where it has bound the event, that changes nothing of what is kept.
pub record GoesOn (q : Plan) (n : ℕ) (k : Kept) : Type 0 where
  pub idle : IsIdle k
  pub bound : IfSome (last_under n k) (λ name. IsRepeated q name k)

-- The same predicates count for both runs, and held sides read the same events of them.
pub record AreAlike (q : Plan) (r s : Run) : Type 0 where
  pub wants : asked q r ≡ asked q s
  pub reads : (name : ℕ) → is_read q name ≡ true → last_bound name (bound_events r) ≡ last_bound name (bound_events s)

-- The runs are those after the event of the number n, of which so many were open when it came: these can be made as they were, and are so where nothing was done.
pub record AreGrown (q : Plan) (n count : ℕ) (is_quiet : Bool) (old new : List Kept) : Type 0 where
  pub set : IsSet q n old
  pub size : length old ≡ count
  pub undoes : Undoes q n old (take count new)
  pub quiet : is_quiet ≡ true → new ≡ old
