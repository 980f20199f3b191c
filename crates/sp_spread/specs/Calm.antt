-- States of the machine in which nothing is to be rolled, finished or planted.
use Rattle.std.specs.Prelude.{◌≡◌, ◌⊎◌, ℕ, ◌+◌, ◌<◌, false, Some, None}
use Rattle.sp_plan.specs.declared.plan.Plan.{Plan}
use Rattle.sp_plan.specs.WindowNumbers.{count}
use Rattle.sp_group.specs.Machine.{Version, Machine, version_at, root_in, conflict}

-- no live version is in conflict
abbrev pub AreCalm : Plan → Machine → Type 0
AreCalm q m = (id : ℕ) (v : Version) → version_at m.versions id ≡ Some v → conflict q m v ≡ None

-- there is no root that is done
abbrev pub NoneDone : Machine → Type 0
NoneDone m = (v : Version) → root_in m.versions ≡ Some v → v.done ≡ false

-- there is a root, or the window behind the finished ones has not begun
abbrev pub IsRooted : Plan → Machine → Type 0
IsRooted q m = ((v : Version) × (root_in m.versions ≡ Some v)) ⊎ (count q m.events < m.finished + 1)

-- all three
pub record Settled (q : Plan) (m : Machine) : Type 0 where
  pub calm : AreCalm q m
  pub undone : NoneDone m
  pub rooted : IsRooted q m
