-- What leases leave as it was, and returns of tickets whose versions are gone; and what leases make of the ready versions. No public clause
-- cites this.
use Rattle.std.specs.Prelude.{◌≡◌, ℕ, ◌+◌, ◌≤◌, ◌==◌, Bool, true, not, ◌&&◌, List, length, None}
use Rattle.std.specs.List.{All, count_by}
use Rattle.sp_base.specs.Numbers.{is_among}
use Rattle.sp_group.specs.Machine.{ticket_at}
use Rattle.sp_group.specs.Steps.{Spread, IsSpreadOut, out_count}
use Rattle.sp_core.specs.Running.{Running}
use Rattle.sp_spread.specs.Calm.{AreCalm}
use Rattle.sp_spread.specs.Counting.{busy_count}
use Rattle.sp_spread.specs.Journaled.{fed, readings_entered}
use Rattle.sp_spread.specs.Laws.{ready_numbers}
use Rattle.sp_spread.specs.Limiting.{AsksAtMost, NeverMore}
use Rattle.sp_splitter.specs.Lending.{leased_all, returned_all}
use Rattle.sp_splitter.specs.Stages.{Goes, StaysWithin}

-- No version changed, only tickets went out or ended; nothing that was read came home; the versions in conflict are none more, and as many
-- are busy.
pub record KeepsVersions (old new : Running) : Type 0 where
  pub plan : new.plan ≡ old.plan
  pub bound : new.bound ≡ old.bound
  pub events : new.machine.events ≡ old.machine.events
  pub ended : new.machine.ended ≡ old.machine.ended
  pub finished : new.machine.finished ≡ old.machine.finished
  pub emitted : new.machine.emitted ≡ old.machine.emitted
  pub versions : new.machine.versions ≡ old.machine.versions
  pub next_id : new.machine.next_id ≡ old.machine.next_id
  pub tickets : old.machine.next_ticket ≤ new.machine.next_ticket
  pub fed_are : fed new.journal ≡ fed old.journal
  pub read : readings_entered new.journal ≡ readings_entered old.journal
  pub calm : AreCalm old.plan old.machine → AreCalm new.plan new.machine
  pub busy : busy_count new.plan new.bound new.machine ≡ busy_count old.plan old.bound old.machine

-- Tickets of versions that are gone returned with nothing read, and no ticket went out.
pub record Clears (old new : Running) : Type 0 where
  pub keeps : KeepsVersions old new
  pub none_more : (n : ℕ) → ticket_at old.machine.tickets n ≡ None → ticket_at new.machine.tickets n ≡ None
  pub goes : (n : ℕ) → Goes n old new
  pub within : (n batch : ℕ) → StaysWithin n batch old new
  pub out : out_count new.machine ≡ out_count old.machine
  pub next_ticket : new.machine.next_ticket ≡ old.machine.next_ticket
  pub back : List ℕ
  pub are : new ≡ returned_all back old

-- no number stands twice
abbrev pub AreApart : List ℕ → Type 0
AreApart ns = (n : ℕ) → count_by (λ m. m == n) ns ≤ 1

-- each of these versions is ready
abbrev pub AreReady : Running → List ℕ → Type 0
AreReady c ids = All (λ id. is_among (ready_numbers c.plan c.bound c.machine) id ≡ true) ids

-- Versions of these ids were leased: so many tickets more are out for live versions, and of the ready ones the others are left.
pub record Lends (shy : Bool) (batch : ℕ) (ids : List ℕ) (old new : Running) : Type 0 where
  pub keeps : KeepsVersions old new
  pub spread : (n : ℕ) → IsSpreadOut old.plan old.bound n old.machine → Spread old.plan old.bound n old.journal → Spread new.plan new.bound n new.journal
  pub out : out_count new.machine ≡ out_count old.machine + length ids
  pub never : (n : ℕ) → out_count new.machine ≤ n + 1 → NeverMore old.plan old.bound n old.journal → NeverMore new.plan new.bound n new.journal
  pub asked : AsksAtMost batch old.journal → AsksAtMost batch new.journal
  pub left : (id : ℕ) → is_among (ready_numbers new.plan new.bound new.machine) id
      ≡ (is_among (ready_numbers old.plan old.bound old.machine) id && not (is_among ids id))
  pub are : new ≡ leased_all shy batch ids old
