-- What giving a piece back does, and what it answers.
use Rattle.std.specs.Prelude.{◌≡◌, ◌<◌, ℕ, zero, suc, List, [], ◌∷◌, ◌++◌, Option, Some, None, slice_get}
use Rattle.sp_piece.specs.declared.job.Job.{Job}
use Rattle.sp_piece.specs.Pieced.{Pieced}
use Rattle.sp_version.specs.declared.version.Version as held
use Rattle.sp_group.specs.declared.step.Entry as step
use Rattle.sp_group.specs.declared.step.Step.TheVariants as s
use Rattle.sp_group.specs.Family.{entry_at}
use Rattle.sp_group.specs.Machine.{Machine, Ticket, Version, version_at, ticket_at}
use Rattle.sp_group.specs.Effects.{without}
use Rattle.sp_group.specs.Refusing.{refusal}
use Rattle.sp_group.specs.Steps.{steps}
use Rattle.sp_rules.specs.Returning.{readings, reads, reads_and_return}
use Rattle.sp_tree.specs.Grown.{Grown, Entry, kin, with_value}
use Rattle.sp_core.specs.declared.given.Given.{Given}
use Rattle.sp_core.specs.declared.lent.Lent.{Lent}
use Rattle.sp_core.specs.declared.given.Given.TheVariants as g
use Rattle.sp_core.specs.Running.{Running, after, once}
use Rattle.sp_core.specs.Carrying.{Carries, ticket_of}

-- so many readings of a ticket as an entry, none where nothing was read
abbrev pub reading_entries : ℕ → ℕ → List step.Entry
reading_entries n zero = []
reading_entries n (suc k) = record { step = s.Event n; times = suc k } ∷ []

-- the core after so many readings of a ticket and its return
abbrev pub after_return : Running → ℕ → ℕ → Running
after_return c n times = record c {
  machine = steps c.plan c.bound c.machine (reads_and_return n times);
  journal = c.journal ++ reading_entries n times ++ once (s.Return n) ∷ [];
}

-- None of so many readings of a ticket is refused, one after another, nor the return behind them.
pub record NoneRefused (c : Running) (n times : ℕ) : Type 0 where
  pub reading : (k : ℕ) → k < times → refusal c.plan c.bound (steps c.plan c.bound c.machine (reads n k)) (s.Event n) ≡ None
  pub returning : refusal c.plan c.bound (steps c.plan c.bound c.machine (reads n times)) (s.Return n) ≡ None

-- the machine, but for a ticket that is gone
abbrev pub without_ticket : Machine → ℕ → Machine
without_ticket m n = record m { tickets = without n m.tickets }

-- the ticket of a piece is out, for a live version
pub record IsOut (c : Running) (p : Pieced) (t : Ticket) (v : Version) : Type 0 where
  pub out : ticket_at c.machine.tickets p.job.ticket ≡ Some t
  pub live : version_at c.machine.versions t.version ≡ Some v

-- the ticket of that number stands at this place
abbrev pub IsPlaceOf : List Ticket → ℕ → ℕ → Type 0
IsPlaceOf tickets n place = (t : Ticket) × (slice_get tickets place ≡ Some t) × (t.number ≡ n) × (ticket_at tickets n ≡ Some t)

-- the tree where nothing is out for a version, if it is live
abbrev pub none_out_where : Grown held.Version → ℕ → Option (Entry held.Version) → Grown held.Version
none_out_where t id None = t
none_out_where t id (Some e) = with_value t id (record e.value { out = None })

abbrev pub with_none_out : Grown held.Version → ℕ → Grown held.Version
with_none_out t id = none_out_where t id (entry_at kin t.entries id)

-- a job has the values of what went out, but for its ticket's number
pub record HasValues (job : Job) (lent : Lent) : Type 0 where
  pub version : job.version ≡ lent.version
  pub first : job.first ≡ lent.first
  pub closes : job.closes ≡ lent.closes
  pub snapshot : job.snapshot.list ≡ lent.snapshot.list

-- a job is what is out under its ticket, for a live version
abbrev pub IsCarried : Running → Job → Type 0
IsCarried c job =
    (t : Ticket) × (v : Version) × (ticket_at c.machine.tickets job.ticket ≡ Some t) × (version_at c.machine.versions t.version ≡ Some v)
    × Carries c.plan c.machine t v job

-- a piece comes home: its job is what is out
abbrev pub CanComeHome : Running → Pieced → Type 0
CanComeHome c p = IsCarried c p.job

-- A piece has come home: it was out, and was read so far; the readings and the return stand in the journal, and none of them was to be
-- refused.
abbrev pub IsHome : Running → Running → Pieced → Type 0
IsHome old new p =
    (t : Ticket) × (v : Version) × IsOut old p t v × Carries old.plan old.machine t v p.job
    × (new ≡ after_return old p.job.ticket (readings p.read p.closed)) × NoneRefused old p.job.ticket (readings p.read p.closed)

-- `NotOut` where the ticket is not out, and nothing changes then; `Stale` where it is, and its version is not live; `Differs` where that is
-- live and the job is not what was lent, and then the ticket is gone and all else of the machine as before; `Home` where the job is what was
-- lent. The readings stand in the journal before the return; those of a piece that does not come home are lost.
abbrev pub IsGiven : Running → Running → Pieced → Given → Type 0
IsGiven old new p g.Home = IsHome old new p
IsGiven old new p (g.Stale id) =
    (t : Ticket) × (ticket_at old.machine.tickets p.job.ticket ≡ Some t) × (t.version ≡ id) × (version_at old.machine.versions id ≡ None)
    × (new ≡ after old (s.Return p.job.ticket))
IsGiven old new p (g.NotOut n) = (n ≡ p.job.ticket) × (ticket_at old.machine.tickets n ≡ None) × (new ≡ old)
IsGiven old new p (g.Differs lent back) =
    (t : Ticket) × (v : Version) × IsOut old p t v × ¬ Carries old.plan old.machine t v p.job × (ticket_of lent ≡ t) × (back ≡ p)
    × (new ≡ after old (s.Return p.job.ticket)) × (new.machine ≡ without_ticket old.machine p.job.ticket)
