-- Of which window a spawned version is.
use Rattle.std.specs.Prelude.{ℕ, ◌+◌, Option, Some, None}
use Rattle.sp_group.specs.Machine.{Machine, Version, version_at}

-- the window behind that of a version, 0 where there is none
abbrev pub window_behind : Option Version → ℕ
window_behind None = 0
window_behind (Some v) = v.window + 1

-- the window behind the parent's; of a root the first one that is not finished
abbrev pub spawned_window : Machine → Option ℕ → ℕ
spawned_window m None = m.finished + 1
spawned_window m (Some p) = window_behind (version_at m.versions p)
