-- What a run keeps between two rounds. No public clause cites this.
use Rattle.std.specs.Prelude.{◌≡◌, ℕ, Bool, List, Option}
use Rattle.sp_plan.specs.declared.event.Event.{Event}
use Rattle.sp_core.specs.Running.{Running}
use Rattle.sp_ports.specs.Taking.{OutletState, Took}
use Rattle.sp_ports.specs.declared.stop.Stop.{Stop}
use Rattle.sp_spread.specs.Journaled.{fed}
use Rattle.sp_split.specs.declared.feeding.Fed.{Fed}
use Rattle.sp_split.specs.Prompt.{AskedBehind}
use Rattle.sp_split.specs.Stages.{IsFed}

-- the core was fed what the intake gave
pub record Ran (gave : List Event → Type 0) (first c : Running) : Type 0 where
  pub plan : c.plan ≡ first.plan
  pub bound : c.bound ≡ first.bound
  pub given : gave c.machine.events
  pub fed_are : fed c.journal ≡ c.machine.events

-- between two stages: the outlet took all that was emitted
pub record Going (gave : List Event → Type 0) (first c : Running) (old new : OutletState) : Type 0 where
  pub run : Ran gave first c
  pub took : Took first.plan c.machine.emitted old new
  pub no_fault : new.faults ≡ old.faults

-- A run from where its intake stood first has come to this: all was taken that was emitted, feeding ended so, and where the intake asked last all
-- was taken that had to be.
pub record IsGoing {A : Type 0} (gave : A → List Event → A → Type 0) (asks : A → List Event → List Event → A → Type 0) (ended : A → Bool) (stops : A → ℕ) (cause : A → Option Stop) (from now : A) (first c : Running) (old new : OutletState) (last : Fed) : Type 0 where
  pub going : Going (λ events. gave from events now) first c old new
  pub fed_so : IsFed ended stops cause from now last c.machine.ended
  pub behind : AskedBehind (asks from) now first.plan c.machine.events old new
