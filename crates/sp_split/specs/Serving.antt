-- What a splitter does between an intake and an outlet.
use Rattle.std.specs.Prelude.{◌≡◌, ◌⊎◌, ℕ, ◌+◌, ◌<◌, ◌≤◌, Bool, true, false, List, length, Option, None, Ok, Err, IfOk, OnErr}
use Rattle.std.specs.declared.result.Result.{Result}
use Rattle.sp_plan.specs.declared.event.Event.{Event}
use Rattle.sp_plan.specs.declared.plan.Plan.{Plan}
use Rattle.std.specs.List.{count_by, sum, Contains}
use Rattle.sp_base.specs.Limits.{batch_limit}
use Rattle.sp_hub.specs.Calls.{by_seat}
use Rattle.sp_hub.specs.History.{is_call, is_take_by, IsLegal}
use Rattle.sp_hub.specs.State.{Posting, Sitting}
use Rattle.sp_hub.specs.declared.exchange.History.{History}
use Rattle.sp_piece.specs.declared.job.Job.{Job}
use Rattle.sp_group.specs.Steps.{Spread, out_count}
use Rattle.sp_core.specs.Running.{Running, begun}
use Rattle.sp_ports.specs.Taking.{OutletState}
use Rattle.sp_ports.specs.declared.stop.Stop.{Stop}
use Rattle.sp_spread.specs.Journaled.{readings_entered}
use Rattle.sp_spread.specs.Limiting.{AsksAtMost, NeverMore}
use Rattle.sp_splitter.specs.Lending.{longest_lease}
use Rattle.sp_splitter.specs.Splitting.{IsBelowKept}
use Rattle.sp_splitter.specs.Stages.{Goes, IsSpreading, StaysWithin}
use Rattle.sp_split.specs.declared.crew.Crew.{Crew}
use Rattle.sp_split.specs.declared.ended.Ended as ended_as
use Rattle.sp_split.specs.declared.ended.Went as went
use Rattle.sp_split.specs.declared.ended.Why.{Why}
use Rattle.sp_split.specs.Driving.{CameAbout, Drove, FellShort, most_asked}
use Rattle.sp_split.specs.Stages.{FedOn}

-- The core was fed, and no more: as many tickets are out, nothing that was read came home, and the journal is as spread as before, and goes
-- beyond nothing that it kept to before.
pub record Filled (old new : Running) : Type 0 where
  pub on : FedOn old new
  pub next_ticket : new.machine.next_ticket ≡ old.machine.next_ticket
  pub out : out_count new.machine ≡ out_count old.machine
  pub read : readings_entered new.journal ≡ readings_entered old.journal
  pub goes : (n : ℕ) → Goes n old new
  pub within : (n most : ℕ) → StaysWithin n most old new

-- A splitter may take a turn: it has at most 16 instances; it leases for 1 to 1,024 events; its poster has not closed the hub, and has room for one ticket more than
-- there are instances; and the ticket that was posted last is below those of the jobs that are kept.
pub record CanTurn (instances batch : ℕ) (kept : List Job) (next_ticket : ℕ) (by : Posting) : Type 0 where
  pub few : instances ≤ 16
  pub some : 1 ≤ batch
  pub most : batch ≤ batch_limit
  pub room : by.room ≡ instances + 1
  pub unclosed : by.closed ≡ false
  pub last : IsBelowKept by.last kept next_ticket

-- A splitter that did so many jobs is to wait for a piece: it did none, a piece is out, and no event may be fed before it is home, or there is no
-- room for one more.
abbrev pub IsToWait : ℕ → ℕ → ℕ → Bool → Type 0
IsToWait helped waiting room must_wait = (helped ≡ 0) × (0 < waiting) × ((must_wait ≡ true) ⊎ (waiting ≡ room))

-- How a run with n instances came about: its journal is spread, no more tickets are out than there may be, and as many
-- tickets were collected at least as readings stand in the journal.
pub record CameBy (n : ℕ) (c : Running) (collected : ℕ) : Type 0 where
  pub spread : Spread c.plan c.bound n c.journal
  pub few : out_count c.machine ≤ n + 1
  -- nor were more out at any time
  pub never : NeverMore c.plan c.bound n c.journal
  pub read : readings_entered c.journal ≤ collected

-- A splitter may be fed, and take a turn: its journal is spread, no more tickets are out than there may be, nor were at any time, and no lease
-- asked for more events than the longest may; its poster collected a ticket for each reading, and may post; and its seat holds nothing.
pub record IsServing (instances batch : ℕ) (kept : List Job) (c : Running) (by : Posting) (seat : Sitting) : Type 0 where
  pub spreading : IsSpreading instances c
  pub never : NeverMore c.plan c.bound instances c.journal
  pub asked : AsksAtMost (longest_lease c.plan batch) c.journal
  pub few : out_count c.machine ≤ instances + 1
  pub read : readings_entered c.journal ≤ length by.got
  pub can : CanTurn instances batch kept c.machine.next_ticket by
  pub free : seat.holding ≡ None

-- How a splitter came to where it stands: no lease asked for more events than the longest may, and its poster has not closed the hub.
pub record CameServing (instances batch : ℕ) (c : Running) (by : Posting) : Type 0 where
  pub came : CameBy instances c (length by.got)
  pub asked : AsksAtMost (longest_lease c.plan batch) c.journal
  pub unclosed : by.closed ≡ false

pub serving_came : (instances batch : ℕ) (kept : List Job) (c : Running) (by : Posting) (seat : Sitting) → IsServing instances batch kept c by seat → CameServing instances batch c by
serving_came instances batch kept c by seat is = record {
  came = record { spread = is.spreading.spread; few = is.few; never = is.never; read = is.read };
  asked = is.asked;
  unclosed = is.can.unclosed;
}

-- What a hub of so many seats did, as its history tells it, where its poster collected so many tickets: each seat but that of number 0 was
-- answered last that no job will come.
pub record WoundUp (seats collected : ℕ) (h : History) : Type 0 where
  pub legal : IsLegal h.entries
  pub enough : collected ≤ sum h.puts
  pub fewer : sum h.puts ≤ count_by is_call h.entries
  pub takes : h.takes ≡ by_seat is_take_by seats h.entries
  pub puts : length h.puts ≡ seats
  pub over : (seat : ℕ) → 0 < seat → seat < seats → Contains h.over seat

-- A splitter served n instances by a batch, and ended so, and its poster collected so many tickets.
pub record Serves {E : Type 0} (gave : List Event → Type 0) (ended : Bool) (before behind : ℕ) (kept : Option Stop) (n batch : ℕ) (c : Running) (old new : OutletState) (end : Result went.Went E) (collected : ℕ) : Type 0 where
  pub drove : IfOk end (λ went. Drove gave ended before behind kept c old new went)
  pub came : IfOk end (λ went. CameBy n went.core collected)
  pub asked : IfOk end (λ went. AsksAtMost (longest_lease went.core.plan batch) went.core.journal)
  pub short : OnErr end (FellShort gave ended c.plan old new)

-- A splitter may begin to serve: its core has done no step, its seat holds nothing, and the ways in and out are those of its plan.
pub record MayServe (c : Running) (instances batch : ℕ) (kept : List Job) (by : Posting) (seat : Sitting) (intake outlet : Plan) : Type 0 where
  pub fresh : c ≡ begun c.plan c.bound
  pub can : CanTurn instances batch kept c.machine.next_ticket by
  pub free : seat.holding ≡ None
  pub intake_plan : intake ≡ c.plan
  pub outlet_plan : outlet ≡ c.plan

-- with what core a run ended so
abbrev pub went_by : {E : Type 0} → Running → Result Why E → Result went.Went E
went_by c (Ok why) = Ok (record { core = c; why = why })
went_by c (Err e) = Err e

-- A run with n instances by a batch ended so, with what its hub did.
pub record Ends {V : Type 0} {T : V → Type 0} {E : Type 0} (gave : List Event → Type 0) (ended : Bool) (before behind : ℕ) (kept : Option Stop) (n batch : ℕ) (c : Running) (old new : OutletState) (end : Result (ended_as.Ended V T) E) : Type 0 where
  pub drove : IfOk end (λ e. Drove gave ended before behind kept c old new (record { core = e.core; why = e.why }))
  pub about : IfOk end (λ e. CameAbout n e.core e.history)
  pub asked : IfOk end (λ e. AsksAtMost (most_asked e.core.plan n batch) e.core.journal)
  pub short : OnErr end (FellShort gave ended c.plan old new)

-- how a run ended, with what its hub did and those that are left of its crew
abbrev pub ending : {V : Type 0} {T : V → Type 0} {E : Type 0} → History → Crew V T → Result went.Went E → Result (ended_as.Ended V T) E
ending history crew (Ok w) = Ok (record { core = w.core; why = w.why; history = history; crew = crew })
ending history crew (Err e) = Err e
