-- A stretch of a run, wherever the run came from. No public clause cites this.
use Rattle.std.specs.Prelude.{◌≡◌, ℕ, Bool, List, Option, None, IfOk, IfSome, OnErr}
use Rattle.std.specs.declared.result.Result.{Result}
use Rattle.sp_plan.specs.declared.event.Event.{Event}
use Rattle.sp_plan.specs.declared.plan.Plan.{Plan}
use Rattle.sp_core.specs.Running.{Running}
use Rattle.sp_ports.specs.Taking.{OutletState}
use Rattle.sp_ports.specs.declared.stop.Stop.{Stop}
use Rattle.sp_split.specs.declared.ended.Went.{Went}
use Rattle.sp_split.specs.declared.ended.Why.{Why}
use Rattle.sp_split.specs.declared.feeding.Fed.{Fed}
use Rattle.sp_split.specs.Driving.{Drove, FellShort}
use Rattle.sp_split.specs.Going.{IsGoing}
use Rattle.sp_split.specs.Prompt.{IsPrompt}
use Rattle.sp_split.specs.Serving.{Serves}

-- A run ended so: with this core, for this reason; or memory ran out while the core was fed.
pub record EndsBy {E : Type 0} (gave : List Event → Type 0) (ended : Bool) (before behind : ℕ) (kept : Option Stop) (first last : Running) (old new : OutletState) (end : Result Why E) : Type 0 where
  pub drove : IfOk end (λ why. Drove gave ended before behind kept first old new (record { core = last; why = why }))
  pub short : OnErr end (FellShort gave ended first.plan old new)

-- By what an intake gave, where it asked, whether it has ended, how often it has stopped and why, and its plan.
module _ {A : Type 0} (gave : A → List Event → A → Type 0) (asks : A → List Event → List Event → A → Type 0) (ended : A → Bool) (stops : A → ℕ) (cause : A → Option Stop) (plan : A → Plan) where
  -- a run has come to this
  abbrev pub IsUnderWay : A → Running → OutletState → Fed → Type 0
  IsUnderWay now c s last = (from : A) × (first : Running) × (old : OutletState) × (plan from ≡ first.plan) × IsGoing gave asks ended stops cause from now first c old s last

  -- A run that had come to the first of two states is under way at the second one, or ended there; and where its intake asked last, all was taken
  -- that had to be.
  pub record Stretched {E : Type 0} (before now : A) (c d : Running) (s t : OutletState) (last fed : Fed) (end : Option (Result Why E)) : Type 0 where
    pub goes : end ≡ None → (from : A) (first : Running) (old : OutletState) → IsGoing gave asks ended stops cause from before first c old s last → IsGoing gave asks ended stops cause from now first d old t fed
    pub ends : IfSome end (λ e. (from : A) (first : Running) (old : OutletState) → plan from ≡ first.plan → IsGoing gave asks ended stops cause from before first c old s last
        → EndsBy (λ events. gave from events now) (ended now) (stops from) (stops now) (cause now) first d old t e)
    pub prompt : (from : A) (first : Running) (old : OutletState) → IsGoing gave asks ended stops cause from before first c old s last → IsPrompt (asks from) now first.plan old t

  -- a run that had come to this was served by n instances until it ended so, and promptly
  abbrev pub ServesOn : {E : Type 0} → A → A → Running → OutletState → OutletState → Fed → ℕ → ℕ → Result Went E → ℕ → Type 0
  ServesOn before now c s t last n batch end collected = (from : A) (first : Running) (old : OutletState) → plan from ≡ first.plan → IsGoing gave asks ended stops cause from before first c old s last
      → Serves (λ events. gave from events now) (ended now) (stops from) (stops now) (cause now) n batch first old t end collected × IsPrompt (asks from) now first.plan old t
