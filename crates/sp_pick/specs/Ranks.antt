-- Where the versions stand among those that wait to be picked. No public clause cites this.
use Rattle.std.specs.Prelude.{ℕ, Bool, List, map, filter, Option}
use Rattle.std.specs.Ordering.{nat_cmp, ordering_then}
use Rattle.std.specs.declared.cmp.Ordering.{Ordering}
use Rattle.sp_tree.specs.Grown.{Entry}
use Rattle.sp_pick.specs.declared.picking.Rank.{Rank}
use Rattle.sp_pick.specs.Picking.{survival_in, depth_in}

-- the order of the ranks, as it is derived
abbrev pub rank_cmp : Rank → Rank → Ordering
rank_cmp a b = ordering_then (nat_cmp a.survival b.survival) (ordering_then (nat_cmp b.depth.0 a.depth.0) (nat_cmp b.id.0 a.id.0))

module _ {V : Type 0} where
  -- the rank of a version
  abbrev pub rank_in : (ℕ → ℕ → ℕ) → List (Entry V) → ℕ → Rank
  rank_in shares es id = record { survival = survival_in shares es id; depth = record { 0 = depth_in es id }; id = record { 0 = id } }

  -- the ids of those whose parent passes a test
  abbrev pub ids_by : (Option ℕ → Bool) → List (Entry V) → List ℕ
  ids_by q es = map (λ e. e.version.id) (filter (λ e. q e.version.parent) es)
