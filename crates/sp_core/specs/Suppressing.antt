-- What is suppressed for a version, within a range of numbers; conflicts; and which versions are ready.
use Rattle.std.specs.Prelude.{ℕ, ◌+◌, Bool, ◌&&◌, not, nat_le, nat_lt, List, Option, Some, None, filter, map, reverse}
use Rattle.std.specs.List.{range_with_len}
use Rattle.sp_base.specs.Numbers.{is_among}
use Rattle.sp_plan.specs.declared.plan.Plan.{Plan}
use Rattle.sp_group.specs.Machine.{Machine, Version, version_at, is_suppressed, conflict}
use Rattle.sp_group.specs.Rising.{least}
use Rattle.sp_group.specs.Steps.{is_ready}

-- the numbers of a range that are suppressed for a version
abbrev pub suppressed_within : Plan → Machine → ℕ → ℕ → ℕ → List ℕ
suppressed_within q m id first count = filter (is_suppressed q m id) (range_with_len first count)

-- whether a number of a range is suppressed for a version, and is not among others
abbrev pub is_unskipped : Plan → Machine → ℕ → ℕ → ℕ → List ℕ → ℕ → Bool
is_unskipped q m id first count skipped i = is_suppressed q m id i && (nat_le first i && nat_lt i (first + count) && not (is_among skipped i))

-- the least such number
abbrev pub least_suppressed : Plan → Machine → ℕ → ℕ → ℕ → List ℕ → Option ℕ
least_suppressed q m id first count skipped = least (is_unskipped q m id first count skipped) first count

-- the conflict of a version, if it is live and in conflict
abbrev pub conflict_of : Plan → Machine → Option Version → Option ℕ
conflict_of q m None = None
conflict_of q m (Some v) = conflict q m v

abbrev pub conflict_at : Plan → Machine → ℕ → Option ℕ
conflict_at q m id = conflict_of q m (version_at m.versions id)

-- the ids of the versions that could be leased now, rising
abbrev pub ready_ids : Plan → ℕ → Machine → List ℕ
ready_ids q bound m = reverse (map (λ v. v.id) (filter (is_ready q bound m) m.versions))
