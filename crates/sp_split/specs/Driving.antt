-- What a run of a core comes to, from an intake to an outlet.
use Rattle.std.specs.Prelude.{◌≡◌, ◌≢◌, ◌⊎◌, ℕ, zero, suc, ◌+◌, ◌<◌, ◌≤◌, Bool, true, false, List, [], ◌∷◌, ◌++◌, length, Option}
use Rattle.std.specs.List.{count_by, sum, Contains}
use Rattle.sp_base.specs.Limits.{batch_limit}
use Rattle.sp_io.specs.Outside.{Rose}
use Rattle.sp_plan.specs.declared.event.Event.{Event}
use Rattle.sp_plan.specs.declared.found.Match.{Match}
use Rattle.sp_plan.specs.declared.plan.Plan.{Plan}
use Rattle.sp_plan.specs.Sequential.{whole}
use Rattle.sp_plan.specs.Windows.{closed}
use Rattle.sp_hub.specs.declared.exchange.History.{History}
use Rattle.sp_hub.specs.Calls.{by_seat}
use Rattle.sp_hub.specs.History.{is_call, is_take_by, IsLegal}
use Rattle.sp_group.specs.Steps.{Spread, out_count}
use Rattle.sp_core.specs.Running.{Running}
use Rattle.sp_ports.specs.Taking.{OutletState, Took, TookFirst, FailedAt}
use Rattle.sp_ports.specs.declared.stop.Stop.{Stop}
use Rattle.sp_ports.specs.Stopping.{Halts}
use Rattle.sp_splitter.specs.Lending.{longest_lease}
use Rattle.sp_split.specs.declared.ended.Went.{Went}
use Rattle.sp_split.specs.declared.ended.Why.TheVariants as why
use Rattle.sp_spread.specs.Journaled.{fed, returns_read, MakesNoChild}
use Rattle.sp_spread.specs.Limiting.{NeverMore}

-- Of a list of matches an outlet failed at one, and took those before it.
pub record FailedWithin (q : Plan) (matches : List Match) (old new : OutletState) : Type 0 where
  pub first : List Match
  pub found : Match
  pub others : List Match
  pub are : matches ≡ first ++ found ∷ others
  pub failed : FailedAt q first found old new

-- by its count of stops before and behind, and by what it keeps as the reason that it gives no more, an intake stopped for this reason
abbrev pub StoppedSo : ℕ → ℕ → Option Stop → Stop → Type 0
StoppedSo before behind kept reason = Rose before behind × Halts reason kept

-- A run of a core over what an intake gave. `gave` says which events it gave in the run, `ended` whether the end of its input was
-- reached, `before` and `behind` how often it had stopped before its end and has by now, and `kept` what it keeps as the reason, if anything.
pub record Drove (gave : List Event → Type 0) (ended : Bool) (before behind : ℕ) (kept : Option Stop) (c : Running) (old new : OutletState) (end : Went) : Type 0 where
  pub plan : end.core.plan ≡ c.plan
  pub bound : end.core.bound ≡ c.bound
  -- what was fed is what the intake gave, in its order
  pub given : gave end.core.machine.events
  pub fed_are : fed end.core.journal ≡ end.core.machine.events
  -- input has ended only where the intake reached its end
  pub ends : end.core.machine.ended ≡ true → ended ≡ true
  pub whole_input : end.why ≡ why.Whole → end.core.machine.ended ≡ true
  -- it ended for the reason for which the intake stopped
  pub stop : (cause : Stop) → end.why ≡ why.Stopped cause → StoppedSo before behind kept cause × (end.core.machine.ended ≡ false)
  -- every closed window is finished, and all that was emitted was taken
  pub finished : (end.why ≡ why.Whole) ⊎ ((cause : Stop) × (end.why ≡ why.Stopped cause))
      → (end.core.machine.finished ≡ closed c.plan end.core.machine.events end.core.machine.ended) × Took c.plan end.core.machine.emitted old new
  -- the outlet failed at a match, and no further one was put
  pub refused : end.why ≡ why.Refused → Rose old.faults new.faults × FailedWithin c.plan end.core.machine.emitted old new
  -- memory ran out
  pub short : end.why ≡ why.Memory → TookFirst c.plan end.core.machine.emitted old new
  pub no_fault : end.why ≢ why.Refused → new.faults ≡ old.faults

-- Memory ran out, and the core is gone: the outlet took the first matches of what the events that the intake gave come to.
pub record FellShort (gave : List Event → Type 0) (ended : Bool) (q : Plan) (old new : OutletState) : Type 0 where
  pub events : List Event
  pub input_ended : Bool
  pub given : gave events
  pub ends : input_ended ≡ true → ended ≡ true
  pub took : TookFirst q (whole q events input_ended).matches old new
  pub no_fault : new.faults ≡ old.faults

-- How many events a lease of a run of this plan asks for at most: with instances a batch, but where nothing can be consumed as many as any lease
-- may; and so without one, where each version is a root that stands alone.
abbrev pub most_asked : Plan → ℕ → ℕ → ℕ
most_asked q zero batch = batch_limit
most_asked q (suc n) batch = longest_lease q batch

-- how many seats a run has at its hub: one for each instance and one of the splitter's own; without an instance it has no hub
abbrev pub seats_for : ℕ → ℕ
seats_for zero = 0
seats_for (suc n) = suc n + 1

-- How a run came about. Without an instance each version was the root from its beginning, and no hub was used. With instances the journal
-- has spread its work over one place more than there are, and at the end no more tickets of live versions are out than places; the hub was
-- called at least as often as a piece that was read came home. Its history tells the takes and the puts of each seat; and the seats of the
-- instances, which are those from 1 on, were each answered last that no job will come.
pub record CameAbout (instances : ℕ) (c : Running) (h : History) : Type 0 where
  pub alone : instances ≡ 0 → MakesNoChild c.journal × (h.entries ≡ [])
  pub spread : 0 < instances → Spread c.plan c.bound instances c.journal
  pub few : 0 < instances → out_count c.machine ≤ instances + 1
  -- nor were more out in any state that the journal passes
  pub never : 0 < instances → NeverMore c.plan c.bound instances c.journal
  pub calls : 0 < instances → returns_read c.journal ≤ count_by is_call h.entries
  pub legal : IsLegal h.entries
  pub takes : h.takes ≡ by_seat is_take_by (seats_for instances) h.entries
  pub puts : length h.puts ≡ seats_for instances
  -- as many pieces were put at least as were read and came home, and no more than calls
  pub read : 0 < instances → returns_read c.journal ≤ sum h.puts
  pub fewer : sum h.puts ≤ count_by is_call h.entries
  pub over : (seat : ℕ) → 0 < seat → seat ≤ instances → Contains h.over seat
