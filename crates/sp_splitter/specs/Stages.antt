-- What each stage of a turn does to a core.
use Rattle.std.specs.Prelude.{◌≡◌, ℕ, ◌+◌, ◌≤◌, false, List, ◌++◌, length}
use Rattle.std.specs.List.{All, flat_map}
use Rattle.sp_plan.specs.declared.found.Match.{Match}
use Rattle.sp_hub.specs.State.{Posting}
use Rattle.sp_group.specs.declared.step.Entry.{Entry}
use Rattle.sp_group.specs.Steps.{Spread, is_lease, out_count}
use Rattle.sp_core.specs.declared.emitted.Emitted.{Emitted}
use Rattle.sp_core.specs.Running.{Running}
use Rattle.sp_spread.specs.Journaled.{MakesNoChild, fed, readings_entered}
use Rattle.sp_spread.specs.Limiting.{AsksAtMost, NeverMore}
use Rattle.sp_spread.specs.Spreading.{Spreading}

-- the journal of a core has spread its work, and where it ends in a lease all that can be out is out
abbrev pub IsSpreading : ℕ → Running → Type 0
IsSpreading n c = Spreading c.plan c.bound n c.machine c.journal

-- so it is still
abbrev pub Goes : ℕ → Running → Running → Type 0
Goes n old new = IsSpreading n old → IsSpreading n new

-- With what came into the journal of a core there is still no state that it passes in which more tickets are out than may be for n instances,
-- and no lease that asks for more than so many events.
pub record StaysWithin (n most : ℕ) (old new : Running) : Type 0 where
  pub never : out_count old.machine ≤ n + 1 → NeverMore old.plan old.bound n old.journal → NeverMore new.plan new.bound n new.journal
  pub asked : AsksAtMost most old.journal → AsksAtMost most new.journal

-- A stage, for n instances and leases of so many events at most: nothing was fed, and matches may have been emitted; the journal is spread; no
-- more tickets are out for live versions than there may be, and were at no time, and none is for more events; no ticket's number is given
-- twice; and windows that are finished stay so.
pub record Went (n most : ℕ) (old new : Running) : Type 0 where
  pub plan : new.plan ≡ old.plan
  pub bound : new.bound ≡ old.bound
  pub events : new.machine.events ≡ old.machine.events
  pub ended : new.machine.ended ≡ old.machine.ended
  pub fed_are : fed new.journal ≡ fed old.journal
  pub more : List Match
  pub emitted : new.machine.emitted ≡ old.machine.emitted ++ more
  pub spread : IsSpreading n old → Spread new.plan new.bound n new.journal
  pub few : out_count old.machine ≤ n + 1 → out_count new.machine ≤ n + 1
  pub within : StaysWithin n most old new
  pub tickets : old.machine.next_ticket ≤ new.machine.next_ticket
  pub finished : old.machine.finished ≤ new.machine.finished

-- No entry that came into the journal makes a child, and none leases.
pub record SendsNone (old new : Running) : Type 0 where
  pub entries : List Entry
  pub entered : new.journal ≡ old.journal ++ entries
  pub no_child : MakesNoChild entries
  pub no_lease : All (λ entry. is_lease entry.step ≡ false) entries

-- nothing was emitted
abbrev pub NoneEmitted : Running → Running → Type 0
NoneEmitted old new = new.machine.emitted ≡ old.machine.emitted

-- nothing that was read came home
abbrev pub NoneRead : Running → Running → Type 0
NoneRead old new = readings_entered new.journal ≡ readings_entered old.journal

-- each reading that came into the journal has a ticket of its own that the poster collected
abbrev pub ReadOfCollected : Running → Running → Posting → Posting → Type 0
ReadOfCollected old new before after = readings_entered new.journal + length before.got ≤ readings_entered old.journal + length after.got

-- the poster collected, and no more
pub record Collected (old new : Posting) : Type 0 where
  pub last : new.last ≡ old.last
  pub room : new.room ≡ old.room
  pub closed : new.closed ≡ old.closed
  pub calls : new.calls ≡ old.calls

-- all matches of windows that were finished
abbrev pub matches_of : List Emitted → List Match
matches_of finished = flat_map (λ emitted. emitted.matches.items) finished
