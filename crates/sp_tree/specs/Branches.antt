-- The versions as the code keeps them. No public clause cites this.
use Rattle.std.specs.Prelude.{◌≡◌, ◌<◌, ◌≤◌, ℕ, length, slice_index_or, slice_set, Bool, true, false, List, [], ◌∷◌, Option, Some, None, is_some, map, if◌then◌else◌}
use Rattle.sp_group.specs.Rising.{IsLabel}
use Rattle.sp_group.specs.Family.{Kin, entry_at, is_parent}
use Rattle.sp_tree.specs.declared.version.Version.{Version as Branch}
use Rattle.sp_tree.specs.declared.version.Change.{Change}
use Rattle.sp_tree.specs.declared.version.Change.TheVariants as c
use Rattle.sp_tree.specs.Version.{Version}
use Rattle.sp_tree.specs.Changes.{decided, promoted}
use Rattle.sp_tree.specs.Children.{children_of}
use Rattle.sp_tree.specs.Shape.{Shape, shape_of, is_nothing, built, filled, unfilled, unplanted}

-- what callers see of it
abbrev pub seen : Branch → Version
seen v = record { id = v.id; parent = v.parent; label = v.label; groups = v.groups }

-- versions by their ids and parents
abbrev pub branches : Kin Branch
branches = record { id = λ v. v.id; parent = λ v. v.parent }

-- each kind of change as a rule
abbrev pub changed_by : Change → Version → Option Version
changed_by (c.Decide owner run outcome) v = decided owner run outcome v
changed_by (c.Promote root) v = promoted root v
changed_by c.Prune v = Some v

-- the version stays as the rule has it, or goes; its id and what is below it are kept in either case
abbrev pub IsSettled : (Version → Option Version) → Branch → Branch → Bool → Type 0
IsSettled rule old new true = (rule (seen old) ≡ Some (seen new)) × (new.id ≡ old.id) × (new.below ≡ old.below)
IsSettled rule old new false = (rule (seen old) ≡ None) × (new.id ≡ old.id) × (new.below ≡ old.below)

-- the version that has no parent
abbrev pub root_among : List Branch → Option ℕ
root_among [] = None
root_among (v ∷ vs) = if is_some v.parent then root_among vs else Some v.id

-- the ids fall, and are below this one
abbrev pub Falls : ℕ → List Branch → Type 0
Falls top [] = Unit {0}
Falls top (v ∷ vs) = (v.id < top) × Falls v.id vs

-- the ids fall
pub record AreFalling (vs : List Branch) : Type 0 where
  pub top : ℕ
  pub falls : Falls top vs

-- the version at the index has this id
abbrev pub IsIndex : List Branch → ℕ → ℕ → Type 0
IsIndex vs id index = (index < length vs) × ((d : Branch) → (slice_index_or vs index d).id ≡ id)

-- the version is a child of the parent, with this label
abbrev pub IsUnder : Branch → ℕ → List ℕ → Type 0
IsUnder v parent label = (v.parent ≡ Some parent) × (v.label ≡ label)

-- some version of this id is the child
abbrev pub IsChildAt : List Branch → ℕ → List ℕ → ℕ → Type 0
IsChildAt vs parent label id = (i : ℕ) × IsIndex vs id i × ((d : Branch) → IsUnder (slice_index_or vs i d) parent label)

-- no version is the child
abbrev pub AreNoChild : List Branch → ℕ → List ℕ → Type 0
AreNoChild [] parent label = Unit {0}
AreNoChild (v ∷ vs) parent label = ¬ IsUnder v parent label × AreNoChild vs parent label

-- how the shapes below the versions change, by their ids and their open groups
abbrev pub AreReshaped : (ℕ → List ℕ → Shape → Shape) → List Branch → List Branch → Type 0
AreReshaped change old new =
    (id : ℕ) (w : Branch) → entry_at branches new id ≡ Some w
    → (v : Branch) × (entry_at branches old id ≡ Some v) × (shape_of w.below ≡ change id v.groups (shape_of v.below))

-- what is below each version stays as it is
abbrev pub kept_shape : ℕ → List ℕ → Shape → Shape
kept_shape id groups s = s

-- what is below one version changes, where one is named
abbrev pub at_one : Option ℕ → (List ℕ → Shape → Shape) → ℕ → List ℕ → Shape → Shape
at_one one change id groups s = if is_parent id one then change groups s else s

-- so many vertices are enough to hang a child of this label below the parent, where one is named
abbrev pub HasVertices : List Branch → Option ℕ → List ℕ → ℕ → Type 0
HasVertices vs None label spare = Unit {0}
HasVertices vs (Some p) label spare = (v : Branch) → entry_at branches vs p ≡ Some v → unplanted v.groups label (shape_of v.below) ≤ spare

-- so many vertices are enough where these are the open groups of the owner
abbrev pub HasMissing : List Branch → ℕ → List ℕ → ℕ → Type 0
HasMissing vs owner groups spare = (v : Branch) → entry_at branches vs owner ≡ Some v → unfilled groups (shape_of v.below) ≤ spare

-- something hangs below the owner
abbrev pub HasBelow : List Branch → ℕ → Type 0
HasBelow vs owner = (v : Branch) → entry_at branches vs owner ≡ Some v → is_nothing (shape_of v.below) ≡ false

-- the version of an id has these open groups, with vertices for them
pub record IsFilled (old : List Branch) (owner : ℕ) (groups : List ℕ) (new : List Branch) : Type 0 where
  pub index : ℕ
  pub was : Branch
  pub now : Branch
  pub at : IsIndex old owner index
  pub read : was ≡ slice_index_or old index was
  pub written : new ≡ slice_set old index now
  pub seen_as : seen now ≡ record (seen was) { groups = groups }
  pub shape : shape_of now.below ≡ filled groups (shape_of was.below)
  pub label : IsLabel groups

-- below each version hangs what its open groups and its children call for
abbrev pub AreHung : List Branch → Type 0
AreHung vs = (id : ℕ) (v : Branch) → entry_at branches vs id ≡ Some v → shape_of v.below ≡ built v.groups (children_of id (map seen vs))
