-- How likely the versions of a tree are to survive, which of them are picked, and which child comes next. Shares count 65,536ths;
-- `shares` gives the share of each group by its owner and its run.
use Rattle.std.specs.Prelude.{◌≡◌, ℕ, ◌+◌, ◌-◌, ◌*◌, ◌/◌, ◌<◌, Bool, true, not, nat_lt, ◌==◌, ◌&&◌, Option, Some, None, if◌then◌else◌}
use Rattle.std.specs.Prelude.{List, [], ◌∷◌, ◌++◌, All, Contains, filter, fold, map, slice_get, take}
use Rattle.std.specs.Ordering.{nat_cmp, ordering_then}
use Rattle.std.specs.declared.cmp.Ordering.{Ordering}
use Rattle.std.specs.List.Sorted.{IsPermutation, IsSortedByKey}
use Rattle.sp_base.specs.Limits.{whole_share}
use Rattle.sp_base.specs.Numbers.{is_among}
use Rattle.sp_group.specs.Family.{entry_at}
use Rattle.sp_tree.specs.Grown.{Entry, kin, groups_of, parent_of, IsChild, LacksChild}
use Rattle.sp_pick.specs.declared.key.Key.{Key}

-- the part of a share that goes with one group: its share where the label has it, and else the rest
abbrev pub part : (ℕ → ℕ) → List ℕ → ℕ → ℕ
part shares label run = if is_among label run then shares run else whole_share - shares run

-- a share of the parent's, group by group, rounded down at each
abbrev pub under : (ℕ → ℕ) → List ℕ → List ℕ → ℕ → ℕ
under shares groups label share = fold (λ s run. s * part shares label run / whole_share) share groups

-- the best label: the groups whose share is above a half
abbrev pub is_likely : (ℕ → ℕ) → ℕ → Bool
is_likely shares run = nat_lt 32768 (shares run)

abbrev pub best : (ℕ → ℕ) → List ℕ → List ℕ
best shares groups = filter (is_likely shares) groups

-- the best label, with the membership of one group turned round
abbrev pub is_turned : (ℕ → ℕ) → ℕ → ℕ → Bool
is_turned shares turn run = if run == turn then not (is_likely shares run) else is_likely shares run

abbrev pub turned : (ℕ → ℕ) → List ℕ → ℕ → List ℕ
turned shares groups turn = filter (is_turned shares turn) groups

-- the labels that a next child may have, the best one first
abbrev pub candidates : (ℕ → ℕ) → List ℕ → List (List ℕ)
candidates shares groups = best shares groups ∷ map (turned shares groups) groups

-- the greatest survival first, then the least depth, then the least id
abbrev pub key_cmp : Key → Key → Ordering
key_cmp a b = ordering_then (ordering_then (nat_cmp b.survival a.survival) (nat_cmp a.depth b.depth)) (nat_cmp a.id b.id)

-- the survival under a parent, from the groups and the survival of each id
abbrev pub survival_under : (ℕ → ℕ → ℕ) → (ℕ → List ℕ) → (ℕ → ℕ) → Option ℕ → List ℕ → ℕ
survival_under shares groups above None label = whole_share
survival_under shares groups above (Some p) label = under (shares p) (groups p) label (above p)

abbrev pub depth_under : (ℕ → ℕ) → Option ℕ → ℕ
depth_under above None = 0
depth_under above (Some p) = above p + 1

module _ {V : Type 0} where
  -- the survival of a version: the whole for the root, and for a child its part of the parent's
  abbrev pub survival_in : (ℕ → ℕ → ℕ) → List (Entry V) → ℕ → ℕ
  survival_in shares [] id = 0
  survival_in shares (e ∷ es) id =
      if e.version.id == id then survival_under shares (λ p. groups_of (entry_at kin es p)) (survival_in shares es) e.version.parent e.version.label
      else survival_in shares es id

  -- the survival that a child of a parent has, or would have, with a label
  abbrev pub survival_of_child : (ℕ → ℕ → ℕ) → List (Entry V) → ℕ → List ℕ → ℕ
  survival_of_child shares es p label = under (shares p) (groups_of (entry_at kin es p)) label (survival_in shares es p)

  -- how many versions stand above a version
  abbrev pub depth_in : List (Entry V) → ℕ → ℕ
  depth_in [] id = 0
  depth_in (e ∷ es) id = if e.version.id == id then depth_under (depth_in es) e.version.parent else depth_in es id

  abbrev pub key_in : (ℕ → ℕ → ℕ) → List (Entry V) → ℕ → Key
  key_in shares es id = record { survival = survival_in shares es id; depth = depth_in es id; id = id }

  -- the ids are the first k of the ready ones, these sorted by their keys
  pub record IsPicked (shares : ℕ → ℕ → ℕ) (es : List (Entry V)) (ready : List ℕ) (k : ℕ) (ids : List ℕ) : Type 0 where
    pub order : List ℕ
    pub permutation : IsPermutation ready order
    pub sorted : IsSortedByKey (key_in shares es) key_cmp order
    pub first : ids ≡ take k order

  -- the version has no parent, as the root of a tree alone has none
  abbrev pub IsTop : List (Entry V) → ℕ → Type 0
  IsTop es id = parent_of (entry_at kin es id) ≡ None

  -- the root is first wherever it is ready and any are picked, whatever the shares are
  abbrev pub RootIsFirst : List (Entry V) → List ℕ → ℕ → List ℕ → Type 0
  RootIsFirst es ready k ids = (root : ℕ) → Contains ready root → IsTop es root → 0 < k → (first : ℕ) × (slice_get ids 0 ≡ Some first) × IsTop es first

  -- some child of the parent has the label
  abbrev pub IsTaken : List (Entry V) → ℕ → List ℕ → Type 0
  IsTaken es p label = (id : ℕ) × IsChild es p label id

  -- the first of these labels that no child has
  pub record IsFirstFree (es : List (Entry V)) (p : ℕ) (labels : List (List ℕ)) (label : List ℕ) : Type 0 where
    pub before : List (List ℕ)
    pub behind : List (List ℕ)
    pub parts : labels ≡ before ++ label ∷ behind
    pub taken : All (IsTaken es p) before
    pub free : LacksChild es p label

  -- the first of the candidates that no child of the parent has; none exactly where each is a child's
  abbrev pub IsNext : List (Entry V) → ℕ → List (List ℕ) → Option (List ℕ) → Type 0
  IsNext es p labels None = All (IsTaken es p) labels
  IsNext es p labels (Some label) = IsFirstFree es p labels label

  -- what the next child of a parent may have for a label
  abbrev pub candidates_in : (ℕ → ℕ → ℕ) → List (Entry V) → ℕ → List (List ℕ)
  candidates_in shares es p = candidates (shares p) (groups_of (entry_at kin es p))
