-- The path of edges from a version down to a child.
use Rattle.std.specs.Prelude.{ℕ, Bool, true, false, List, [], reverse, Option, Some, None, map, filter, if◌then◌else◌}
use Rattle.sp_base.specs.Numbers.{is_among}
use Rattle.sp_group.specs.declared.outcome.Outcome.{Outcome}
use Rattle.sp_group.specs.declared.outcome.Outcome.TheVariants.{Completed, Abandoned}
use Rattle.sp_group.specs.Family.{entry_at, is_parent}
use Rattle.sp_tree.specs.Grown.{Entry, kin, groups_of}

-- the edge that a label takes at a group
abbrev pub edge : List ℕ → ℕ → ℕ × Outcome
edge label run = if is_among label run then (run, Completed) else (run, Abandoned)

abbrev pub is_completed : Outcome → Bool
is_completed Completed = true
is_completed Abandoned = false

-- the runs of a path whose completion edges it takes
abbrev pub completed_in : List (ℕ × Outcome) → List ℕ
completed_in path = map (λ e. e.0) (filter (λ e. is_completed e.1) path)

module _ {V : Type 0} where
  -- the open groups of the parent
  abbrev pub groups_above : List (Entry V) → Option ℕ → List ℕ
  groups_above es None = []
  groups_above es (Some p) = groups_of (entry_at kin es p)

  -- for each open group of the parent, by rising run, the edge on the way to the version
  abbrev pub path_to : List (Entry V) → Option (Entry V) → List (ℕ × Outcome)
  path_to es None = []
  path_to es (Some e) = map (edge e.version.label) (groups_above es e.version.parent)

  -- the ids of the children, rising
  abbrev pub ids_under : List (Entry V) → ℕ → List ℕ
  ids_under es id = reverse (map (λ e. e.version.id) (filter (λ e. is_parent id e.version.parent) es))
