-- What a turn of a splitter comes to.
use Rattle.std.specs.Prelude.{◌≡◌, ◌⊎◌, ℕ, ◌+◌, ◌≤◌, List, [], ◌++◌, length}
use Rattle.sp_chance.specs.declared.chances.Chance.{Chance}
use Rattle.sp_chance.specs.Shares.{share_of}
use Rattle.sp_hub.specs.State.{Posting}
use Rattle.sp_piece.specs.declared.job.Job.{Job}
use Rattle.sp_group.specs.Steps.{IsLentOut, out_count}
use Rattle.sp_core.specs.declared.emitted.Emitted.{Emitted}
use Rattle.sp_core.specs.Running.{Running}
use Rattle.sp_spread.specs.Calm.{AreCalm, NoneDone, Settled}
use Rattle.sp_spread.specs.Guessing.{AreGuessed}
use Rattle.sp_splitter.specs.Breeding.{Breeds, IsWide}
use Rattle.sp_splitter.specs.Finishing.{Finishes}
use Rattle.sp_splitter.specs.Gathering.{Gathered}
use Rattle.sp_splitter.specs.Lending.{Leases, DropsStale}
use Rattle.sp_splitter.specs.Planting.{Plants}
use Rattle.sp_splitter.specs.Rolling.{Rolls}
use Rattle.sp_splitter.specs.Stages.{Goes, ReadOfCollected, SendsNone, Went, matches_of}

-- The state of a splitter behind a turn: how many instances there are and what a lease asks for at most; what the predictor may have been
-- taught before, and now, and what it means; the chances; the jobs that were kept before, and those that are kept now; and the poster before,
-- and now.
pub record Outlook : Type 1 where
  pub instances : ℕ
  pub most : ℕ
  pub taught_before : List (ℕ × ℕ) → Type 0
  pub taught : List (ℕ × ℕ) → Type 0
  pub means : ℕ → ℕ → ℕ
  pub chances : List Chance
  pub kept_before : List Job
  pub kept : List Job
  pub before : Posting
  pub by : Posting

-- Versions in conflict were rolled until none was, then windows were finished until no root was done, and then a root was made where one
-- could be.
pub record TidiedUp (old new : Running) (finished : List Emitted) : Type 0 where
  pub rolled : Running
  pub rolls : Rolls old rolled
  pub calm : AreCalm rolled.plan rolled.machine
  pub done : Running
  pub finishes : Finishes rolled done finished
  pub undone : NoneDone done.machine
  pub plants : Plants done new

-- Children were made, then what is stale of the kept jobs was given back, then ready versions were leased, and each lease's job is kept.
pub record SentOut (shares : ℕ → ℕ → ℕ) (n most : ℕ) (old new : Running) (kept left : List Job) : Type 0 where
  pub bred : Running
  pub cleared : Running
  pub children : Breeds shares n old bred
  pub kept_then : List Job
  pub dropped : DropsStale bred cleared kept kept_then
  pub leases : Leases shares n most cleared new
  pub jobs : length left + out_count cleared.machine ≡ length kept_then + out_count new.machine

-- A turn of a core, which emits the matches of these windows.
pub record Turned (o : Outlook) (old new : Running) (finished : List Emitted) : Type 0 where
  pub emitted : new.machine.emitted ≡ old.machine.emitted ++ matches_of finished
  -- no live version is in conflict, no root is done, and there is a root unless its window has not begun
  pub settled : Settled new.plan new.machine
  -- as many tickets of live versions are out as may be, or no version is ready
  pub lent : IsLentOut new.plan new.bound o.instances new.machine
  -- a job is kept only where no more may be posted
  pub posted : (o.kept ≡ []) ⊎ (o.instances + 1 ≤ o.by.waiting)
  -- enough versions are out or ready, or no more could be made
  pub wide : IsWide (share_of o.chances) o.instances new
  -- the chances are the predictor's
  pub guessed : AreGuessed new.plan new.machine o.means (share_of o.chances)
  -- what the poster collected was given back, and the predictor was taught what is learned of it; then all was tidied up, and these windows
  -- were finished; so far no child was made, and nothing leased
  pub home : Running
  pub collected : Posting
  pub gathered : Gathered o.taught_before o.taught old home o.before collected
  pub planted : Running
  pub tidied : TidiedUp home planted finished
  pub sends_none : SendsNone old planted
  pub went : Went o.instances o.most old planted
  pub finished_then : planted.machine.emitted ≡ old.machine.emitted ++ matches_of finished
  pub settled_then : Settled planted.plan planted.machine
  -- then work was sent out
  pub sendable : List Job
  pub sent : SentOut (share_of o.chances) o.instances o.most planted new o.kept_before sendable
  -- each reading that came home has a ticket of its own that was collected; then each job was posted by a call, or is kept
  pub came : ReadOfCollected old new o.before collected
  pub each : o.by.calls + length o.kept ≡ collected.calls + length sendable
  pub goes : Goes o.instances old new
