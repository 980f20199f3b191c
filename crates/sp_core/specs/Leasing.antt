-- What a lease answers, and what it asks of windows.
use Rattle.std.specs.Prelude.{◌≡◌, ◌≤◌, ℕ, Bool, Option, Some, None, IfSome, nat_le}
use Rattle.sp_plan.specs.Windows.{closed}
use Rattle.sp_plan.specs.WindowNumbers.{count}
use Rattle.sp_match.specs.public.Matching.{Matching}
use Rattle.sp_piece.specs.declared.job.Job.{Job}
use Rattle.sp_version.specs.declared.version.Version as held
use Rattle.sp_group.specs.Family.{entry_at}
use Rattle.sp_group.specs.Machine.{Version, version_at}
use Rattle.sp_group.specs.Effects as effects
use Rattle.sp_tree.specs.Grown.{Grown, Entry, kin, with_value}
use Rattle.sp_core.specs.declared.lent.Lent.{Lent}
use Rattle.sp_core.specs.Running.{Running}
use Rattle.sp_core.specs.Carrying.{Carries, ticket_of}

-- what goes out under the next ticket where a version is leased
abbrev pub IsLent : Running → ℕ → ℕ → Lent → Type 0
IsLent c id count lent = (v : Version) × (version_at c.machine.versions id ≡ Some v) × (ticket_of lent ≡ effects.lent c.plan c.machine count v)

-- the job of a lease carries it
abbrev pub IsLeased : Running → ℕ → ℕ → Job → Type 0
IsLeased c id count job =
    (v : Version) × (version_at c.machine.versions id ≡ Some v) × Carries c.plan c.machine (effects.lent c.plan c.machine count v) v job

-- the matcher of a version, where it is live
abbrev pub IsMatcherOf : Grown held.Version → ℕ → Matching → Type 0
IsMatcherOf t id m = IfSome (entry_at kin t.entries id) (λ e. m ≡ e.value.matcher)

-- an event has opened the window of that number
abbrev pub HasBegun : Running → ℕ → Type 0
HasBegun c w = (1 ≤ w) × (w ≤ count c.plan c.machine.events)

-- whether no event can join the window of that number
abbrev pub is_closed : Running → ℕ → Bool
is_closed c w = nat_le w (closed c.plan c.machine.events c.machine.ended)

-- the tree where the ticket of a number is out for a version, if it is live
abbrev pub out_where : Grown held.Version → ℕ → ℕ → Option (Entry held.Version) → Grown held.Version
out_where t id number None = t
out_where t id number (Some e) = with_value t id (record e.value { out = Some number })

abbrev pub with_out : Grown held.Version → ℕ → ℕ → Grown held.Version
with_out t id number = out_where t id number (entry_at kin t.entries id)
