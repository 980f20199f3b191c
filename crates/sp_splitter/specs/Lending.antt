-- Which versions are leased, those that are picked of the ready ones, and for how many events.
use Rattle.std.specs.Prelude.{◌≡◌, ℕ, ◌+◌, ◌-◌, ◌*◌, Bool, not, ◌||◌, List, [], ◌∷◌, filter, min, max, Option, Some, None, is_some, is_none, nat_le, nat_lt, if◌then◌else◌}
use Rattle.std.specs.List.{All, list_any}
use Rattle.sp_base.specs.Limits.{batch_limit}
use Rattle.sp_plan.specs.declared.event.Event.{Event}
use Rattle.sp_plan.specs.declared.plan.Plan.{Plan}
use Rattle.sp_plan.specs.WindowNumbers.{first, size}
use Rattle.sp_group.specs.declared.step.Step.TheVariants as s
use Rattle.sp_group.specs.Machine as machine
use Rattle.sp_group.specs.Machine.{version_at, ticket_at}
use Rattle.sp_group.specs.Steps.{out_count}
use Rattle.sp_piece.specs.declared.job.Job.{Job}
use Rattle.sp_version.specs.declared.version.Version.{Version}
use Rattle.sp_tree.specs.Grown.{Grown}
use Rattle.sp_pick.specs.Picking.{IsPicked}
use Rattle.sp_core.specs.Running.{Running, after}
use Rattle.sp_core.specs.Showing.{IsTreeOf}
use Rattle.sp_core.specs.Suppressing.{ready_ids}

-- whether a match can consume an event
abbrev pub consumes : Plan → Bool
consumes q = list_any (λ name. name.consumed) q.names

-- How many events a lease asks for at most: a batch; but as many as any lease may where no match can consume an event, since there no guess is
-- needed, and nothing that is read is ever lost.
abbrev pub longest_lease : Plan → ℕ → ℕ
longest_lease q batch = if consumes q then batch else batch_limit

-- the number of the event that a version reads next
abbrev pub next_read : Plan → List Event → machine.Version → ℕ
next_read q events v = first q events v.window + v.position

-- the live parent of a version
abbrev pub parent_in : List machine.Version → Option ℕ → Option machine.Version
parent_in versions None = None
parent_in versions (Some p) = version_at versions p

-- Whether a version may be leased whatever its parent has read: it has read less than two of the longest leases, so that little is lost where
-- it begins anew; or the parent keeps nothing from it that the parent has yet to read, since the parent is done, or its window ends before the event
-- that the version reads next, or nothing can be consumed.
abbrev pub is_free : ℕ → Plan → List Event → machine.Version → machine.Version → Bool
is_free most q events parent v =
    nat_lt v.position (2 * most) || (parent.done
    || (nat_le (first q events parent.window + size q events parent.window) (next_read q events v) || not (consumes q)))

-- How many events a lease of a version asks for: as many as any may; but a child asks for one where children are shy, and else, where it is
-- not free, for no event behind those that its parent has read, and eight at least, or as many as any may where these are fewer.
abbrev pub asked_behind : Bool → ℕ → Running → machine.Version → Option machine.Version → ℕ
asked_behind shy most c v None = most
asked_behind shy most c v (Some parent) =
    if shy then 1 else if is_free most c.plan c.machine.events parent v then most
    else max (min most 8) (min (next_read c.plan c.machine.events parent - next_read c.plan c.machine.events v) most)

-- the same, where the version is there
abbrev pub asked_of : Bool → ℕ → Running → Option machine.Version → ℕ
asked_of shy most c None = most
asked_of shy most c (Some v) = asked_behind shy most c v (parent_in c.machine.versions v.parent)

-- the same, by the id
abbrev pub asked : Bool → ℕ → Running → ℕ → ℕ
asked shy most c id = asked_of shy most c (version_at c.machine.versions id)

-- the core after the versions of these ids are leased, one after another, each for the events that it asks for
abbrev pub leased_all : Bool → ℕ → List ℕ → Running → Running
leased_all shy most [] c = c
leased_all shy most (id ∷ ids) c = leased_all shy most ids (after c (s.Lease id (asked shy most c id)))

-- the core after tickets of these numbers return with nothing read
abbrev pub returned_all : List ℕ → Running → Running
returned_all [] c = c
returned_all (n ∷ ns) c = returned_all ns (after c (s.Return n))

-- these are picked of the ready versions: as many as there are places for n instances and one more
abbrev pub ArePicked : (ℕ → ℕ → ℕ) → ℕ → Running → List ℕ → Type 0
ArePicked shares n c ids =
    (tree : Grown Version) × IsTreeOf c tree
    × IsPicked shares tree.entries (ready_ids c.plan c.bound c.machine) (n + 1 - out_count c.machine) ids

-- The versions that are picked are leased, each for so many events at most, and children are shy for it or not.
pub record Leases (shares : ℕ → ℕ → ℕ) (n most : ℕ) (old new : Running) : Type 0 where
  pub shy : Bool
  pub ids : List ℕ
  pub picked : ArePicked shares n old ids
  pub are : new ≡ leased_all shy most ids old

-- The jobs whose versions are gone are given back with nothing read, and no ticket of theirs is out any more; the others are kept.
pub record DropsStale (old new : Running) (kept left : List Job) : Type 0 where
  pub back : List ℕ
  pub are : new ≡ returned_all back old
  pub ended : All (λ job. ticket_at new.machine.tickets job.ticket ≡ None) (filter (λ job. is_none (version_at old.machine.versions job.version)) kept)
  pub others : left ≡ filter (λ job. is_some (version_at old.machine.versions job.version)) kept
