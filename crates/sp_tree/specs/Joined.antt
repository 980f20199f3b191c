-- How a tree keeps its entries: the versions, and the store of their values, both the newest first. No public clause cites this.
use Rattle.std.specs.Prelude.{◌≡◌, ℕ, ◌+◌, Bool, true, false, Option, Some, None, List, [], ◌∷◌, ◌++◌, take, drop, map, slice_set as set, slice_index_or as get_or}
use Rattle.sp_group.specs.Family.{parent_there, prune}
use Rattle.sp_store.specs.Stored.{Stored, FallFrom}
use Rattle.sp_tree.specs.declared.version.Version.{Version as Branch}
use Rattle.sp_tree.specs.Version.{Version}
use Rattle.sp_tree.specs.Branches.{branches, seen, AreHung}
use Rattle.sp_tree.specs.Children.{AreFamily}
use Rattle.sp_tree.specs.Grown.{Entry, AreRooted, kin, lifted}

module _ {V : Type 0} where
  -- each version with its value
  abbrev pub joined : List Branch → List (ℕ × V) → List (Entry V)
  joined [] es = []
  joined (v ∷ vs) [] = []
  joined (v ∷ vs) (e ∷ es) = record { version = seen v; value = e.1 } ∷ joined vs es

  -- the values have the ids of the versions, in the same order
  abbrev pub HaveIds : List Branch → List (ℕ × V) → Type 0
  HaveIds [] [] = Unit {0}
  HaveIds [] (e ∷ es) = ⊥
  HaveIds (v ∷ vs) [] = ⊥
  HaveIds (v ∷ vs) (e ∷ es) = (v.id ≡ e.0) × HaveIds vs es

  pub record AreJoined (versions : List Branch) (values : Stored V) : Type 0 where
    pub ids : HaveIds versions values.entries
    pub fall : FallFrom values.next values.entries

  pub record IsTree (versions : List Branch) (values : Stored V) : Type 0 where
    pub both : AreJoined versions values
    pub rooted : AreRooted (joined versions values.entries)
    pub family : AreFamily (map seen versions)
    pub hung : AreHung versions

  -- the first entries as they were, and then the others under the rule, without those that it takes away and those that have lost their parent
  abbrev pub IsPrunedFrom : ℕ → (Version → Option Version) → List (Entry V) → List (Entry V) → Type 0
  IsPrunedFrom first rule old new = new ≡ take first old ++ prune kin (lifted rule) (drop first old)

-- what goes, or has lost its parent
abbrev pub IsGone : List Branch → Option Version → Type 0
IsGone older None = Unit {0}
IsGone older (Some w) = parent_there branches older w.parent ≡ false

abbrev pub IsStanding : (Version → Option Version) → ℕ → List Branch → Branch → Branch → Bool → Type 0
IsStanding rule i old w d true = (rule (seen (get_or old i d)) ≡ Some (seen w)) × (parent_there branches (drop (i + 1) old) w.parent ≡ true)
IsStanding rule i old w d false = IsGone (drop (i + 1) old) (rule (seen (get_or old i d)))

-- a version of the list is changed, with its id and what is below it kept; it stays as the rule has it and its parent is behind it, or it is to go
abbrev pub IsKept : (Version → Option Version) → ℕ → List Branch → List Branch → Bool → Type 0
IsKept rule i old new stays = (w : Branch) × (new ≡ set old i w) × ((d : Branch) → w.id ≡ (get_or old i d).id) × ((d : Branch) → IsStanding rule i old w d stays) × ((d : Branch) → w.below ≡ (get_or old i d).below)
