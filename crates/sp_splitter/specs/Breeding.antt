-- Which children are made: those that are likeliest to survive, until enough versions are out or ready.
use Rattle.std.specs.Prelude.{◌≡◌, ◌⊎◌, ℕ, ◌+◌, ◌<◌, ◌≤◌, List, length, Some, None}
use Rattle.sp_plan.specs.WindowNumbers.{count}
use Rattle.sp_group.specs.declared.step.Step.TheVariants as s
use Rattle.sp_group.specs.Machine as machine
use Rattle.sp_group.specs.Machine.{version_at}
use Rattle.sp_version.specs.declared.version.Version.{Version}
use Rattle.sp_tree.specs.Grown.{Grown}
use Rattle.sp_pick.specs.Picking.{IsNext, candidates_in, survival_of_child}
use Rattle.sp_core.specs.Running.{Running, after}
use Rattle.sp_core.specs.Showing.{IsTreeOf}
use Rattle.sp_spread.specs.Counting.{busy_count}

-- A child that could be made: it has a live parent, the window behind the parent's has begun, and the label is the parent's next one.
pub record CanBear (c : Running) (t : Grown Version) (shares : ℕ → ℕ → ℕ) (p : ℕ) (label : List ℕ) : Type 0 where
  pub parent : machine.Version
  pub live : version_at c.machine.versions p ≡ Some parent
  pub begun : parent.window + 1 ≤ count c.plan c.machine.events
  pub next : IsNext t.entries p (candidates_in shares t.entries p) (Some label)

-- by the greatest survival, then the least window, then the least parent
abbrev pub ComesFirst : ℕ → ℕ → ℕ → ℕ → ℕ → ℕ → Type 0
ComesFirst survival window parent its_survival its_window its_parent =
    (its_survival < survival)
    ⊎ ((survival ≡ its_survival) × ((window < its_window) ⊎ ((window ≡ its_window) × (parent ≤ its_parent))))

-- no other child that could be made comes before this one
pub record IsBest (c : Running) (t : Grown Version) (shares : ℕ → ℕ → ℕ) (p : ℕ) (label : List ℕ) : Type 0 where
  pub can : CanBear c t shares p label
  pub first : (other : ℕ) (its : List ℕ) (bears : CanBear c t shares other its)
      → ComesFirst (survival_of_child shares t.entries p label) can.parent.window p (survival_of_child shares t.entries other its) bears.parent.window other

-- no live version whose next window has begun has a label left for a child
abbrev pub NoneToBear : Running → Grown Version → (ℕ → ℕ → ℕ) → Type 0
NoneToBear c t shares =
    (p : ℕ) (v : machine.Version) → version_at c.machine.versions p ≡ Some v → v.window + 1 ≤ count c.plan c.machine.events
    → IsNext t.entries p (candidates_in shares t.entries p) None

-- Enough versions are out or ready for n instances and one more; or as many are live as may be; or no child could be made.
abbrev pub IsWide : (ℕ → ℕ → ℕ) → ℕ → Running → Type 0
IsWide shares n c =
    (n + 1 ≤ busy_count c.plan c.bound c.machine)
    ⊎ ((length c.machine.versions ≡ c.bound) ⊎ ((t : Grown Version) × IsTreeOf c t × NoneToBear c t shares))

-- Children are made, each the best at its time, while fewer versions are out or ready and fewer are live than may be.
pub data Breeds (shares : ℕ → ℕ → ℕ) (n : ℕ) : Running → Running → Type 0 where
  enough : (c : Running) → IsWide shares n c → Breeds shares n c c
  bred : (c d : Running) (t : Grown Version) (p : ℕ) (label : List ℕ) → IsTreeOf c t
      → busy_count c.plan c.bound c.machine < n + 1 → length c.machine.versions < c.bound → IsBest c t shares p label
      → Breeds shares n (after c (s.Spawn (Some p) label)) d → Breeds shares n c d
