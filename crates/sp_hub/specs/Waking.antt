-- Who is woken for a job, and who may take it.
use Rattle.std.specs.Prelude.{ℕ, ◌≤◌, ◌+◌, Bool, nat_lt, if◌then◌else◌, List, length}
use Rattle.sp_hub.specs.declared.taken.Taken.{Taken}
use Rattle.sp_hub.specs.declared.taken.Taken.TheVariants as taken
use Rattle.sp_hub.specs.Calls.{oldest}
use Rattle.sp_hub.specs.State.{Exchange}

-- What stands behind a hub's lock: its state, how many seats wait for a job, how many that were woken for one are on their way to it, how many
-- posters wait for a piece, and how many pieces came home.
pub record Guarded (J : Type 0) : Type 0 where
  pub state : Exchange J
  pub idle_seats : ℕ
  pub coming : ℕ
  pub idle_posters : ℕ
  pub arrived : ℕ

-- as many seats are on their way, and one more where it was woken
abbrev pub woken : ℕ → Bool → ℕ
woken coming wakes = if wakes then coming + 1 else coming

module _ {J : Type 0} where
  -- a job is listed for each seat that is on its way
  abbrev pub AreAwaited : List J → ℕ → Type 0
  AreAwaited jobs coming = coming ≤ length jobs

  -- a seat is woken for one job more: more of them wait than are on their way
  abbrev pub is_to_wake : Guarded J → Bool
  is_to_wake s = nat_lt s.coming s.idle_seats

  -- the oldest job, where more are listed than seats are on their way
  abbrev pub oldest_spare : Guarded J → Taken J
  oldest_spare s = if nat_lt s.coming (length s.state.jobs) then oldest s.state.jobs s.state.closed else taken.Empty
