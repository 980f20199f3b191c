-- What is to be given of events that come out of order.
use Rattle.std.specs.Prelude.{◌≡◌, ◌≤◌, ℤ, Bool, true, false, List, ◌++◌, length}
use Rattle.std.specs.List.{All, count_by}
use Rattle.sp_plan.specs.declared.event.Event.{Event}
use Rattle.sp_plan.specs.Events.{NeverGoesBack}
use Rattle.sp_slack.specs.HeldBack.{slacked, AreTimely}

-- It never goes back in time; each of its events is one that came; once no more come it has them all, each as often as it came.
pub record SlackedEvents : Type 0 where
  pub ordered : (slack : ℤ) (events : List Event) (ended : Bool) → NeverGoesBack (slacked slack events ended)
  pub own : (is : Event → Bool) (slack : ℤ) (events : List Event) (ended : Bool) → All (λ e. is e ≡ true) events → All (λ e. is e ≡ true) (slacked slack events ended)
  pub few : (slack : ℤ) (events : List Event) (ended : Bool) → length (slacked slack events ended) ≤ length events
  pub all : (is : Event → Bool) (slack : ℤ) (events : List Event) → count_by is (slacked slack events true) ≡ count_by is events

-- It comes first in what is to be given once others came behind, of which none is late.
abbrev pub SlackedGrows : Type 0
SlackedGrows = (slack : ℤ) (events more : List Event) (ended : Bool) → AreTimely slack events more
    → (others : List Event) × (slacked slack (events ++ more) ended ≡ slacked slack events false ++ others)
