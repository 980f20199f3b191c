-- The way from a version up to the root. No public clause cites this.
use Rattle.std.specs.Prelude.{ℕ, zero, suc, List, unwrap_or}
use Rattle.sp_group.specs.Family.{entry_at}
use Rattle.sp_tree.specs.Grown.{Entry, kin, parent_of}

module _ {V : Type 0} where
  -- the parent of a version, or the version itself where it has none
  abbrev pub above : List (Entry V) → ℕ → ℕ
  above es id = unwrap_or (parent_of (entry_at kin es id)) id

  -- the version so many steps above
  abbrev pub climbed : List (Entry V) → ℕ → ℕ → ℕ
  climbed es zero id = id
  climbed es (suc n) id = climbed es n (above es id)
