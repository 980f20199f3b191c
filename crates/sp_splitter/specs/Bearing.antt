-- The search for the best child, and its making. No public clause cites this.
use Rattle.std.specs.Prelude.{◌≡◌, ◌⊎◌, ℕ, ◌+◌, ◌<◌, ◌≤◌, Bool, true, ◌==◌, nat_lt, nat_le, List, length, Option, Some, None, if◌then◌else◌}
use Rattle.std.specs.List.{All}
use Rattle.sp_plan.specs.WindowNumbers.{count}
use Rattle.sp_group.specs.declared.step.Step.TheVariants as s
use Rattle.sp_group.specs.Machine as machine
use Rattle.sp_group.specs.Machine.{version_at}
use Rattle.sp_group.specs.Rising.{IsLabel}
use Rattle.sp_version.specs.declared.version.Version.{Version}
use Rattle.sp_tree.specs.Grown.{Grown, is_open}
use Rattle.sp_pick.specs.Picking.{IsNext, candidates_in, survival_of_child}
use Rattle.sp_core.specs.Running.{IsDone, Running}
use Rattle.sp_core.specs.Showing.{IsTreeOf}
use Rattle.sp_splitter.specs.declared.breeding.Born.{Born}
use Rattle.sp_splitter.specs.Breeding.{CanBear, ComesFirst, IsBest, NoneToBear}

-- the child could be made, and is told with what it is chosen by
pub record IsBorn (c : Running) (t : Grown Version) (shares : ℕ → ℕ → ℕ) (born : Born) : Type 0 where
  pub can : CanBear c t shares born.parent born.label
  pub survival : born.survival ≡ survival_of_child shares t.entries born.parent born.label
  pub window : born.window ≡ can.parent.window
  pub open_runs : All (λ run. is_open t born.parent run ≡ true) born.label

-- a version can have no child now
abbrev pub BearsNone : Running → Grown Version → (ℕ → ℕ → ℕ) → ℕ → Type 0
BearsNone c t shares p =
    (v : machine.Version) → version_at c.machine.versions p ≡ Some v → v.window + 1 ≤ count c.plan c.machine.events
    → IsNext t.entries p (candidates_in shares t.entries p) None

-- what is found of one version
abbrev pub IsFoundFor : Running → Grown Version → (ℕ → ℕ → ℕ) → ℕ → Option Born → Type 0
IsFoundFor c t shares p None = BearsNone c t shares p
IsFoundFor c t shares p (Some born) = IsBorn c t shares born × (born.parent ≡ p)

-- the child comes before any that this version could have
abbrev pub BeatsOf : Running → Grown Version → (ℕ → ℕ → ℕ) → Born → ℕ → Type 0
BeatsOf c t shares born other =
    (its : List ℕ) (bears : CanBear c t shares other its)
    → ComesFirst born.survival born.window born.parent (survival_of_child shares t.entries other its) bears.parent.window other

-- what is found of the first n of these versions
abbrev pub IsFoundAmong : Running → Grown Version → (ℕ → ℕ → ℕ) → (ℕ → ℕ) → ℕ → Option Born → Type 0
IsFoundAmong c t shares id n None = (k : ℕ) → k < n → BearsNone c t shares (id k)
IsFoundAmong c t shares id n (Some born) = IsBorn c t shares born × ((k : ℕ) → k < n → BeatsOf c t shares born (id k))

-- what is found of all versions
abbrev pub IsFoundAmongAll : Running → Grown Version → (ℕ → ℕ → ℕ) → Option Born → Type 0
IsFoundAmongAll c t shares None = NoneToBear c t shares
IsFoundAmongAll c t shares (Some born) = IsBest c t shares born.parent born.label × IsBorn c t shares born

abbrev pub comes_before : Born → Born → Bool
comes_before a b =
    if a.survival == b.survival then if a.window == b.window then nat_le a.parent b.parent else nat_lt a.window b.window
    else nat_lt b.survival a.survival

-- the one of two that comes before the other
abbrev pub chosen : Option Born → Option Born → Option Born
chosen None other = other
chosen (Some a) None = Some a
chosen (Some a) (Some b) = if comes_before a b then Some a else Some b

-- the best child was made
pub record HasBorn (shares : ℕ → ℕ → ℕ) (old new : Running) : Type 0 where
  pub tree : Grown Version
  pub is_tree : IsTreeOf old tree
  pub parent : ℕ
  pub label : List ℕ
  pub labelled : IsLabel label
  pub room : length old.machine.versions < old.bound
  pub best : IsBest old tree shares parent label
  pub done : IsDone (s.Spawn (Some parent) label) old new

-- no child was made, since as many are live as may be, or none could be made
abbrev pub IsBarren : (ℕ → ℕ → ℕ) → Running → Running → Type 0
IsBarren shares old new =
    (new ≡ old) × ((length old.machine.versions ≡ old.bound) ⊎ ((t : Grown Version) × IsTreeOf old t × NoneToBear old t shares))
