-- Which windows are finished, and what they emit.
use Rattle.std.specs.Prelude.{◌≡◌, ℕ, List, [], ◌∷◌, ◌++◌}
use Rattle.sp_group.specs.declared.step.Step.TheVariants as s
use Rattle.sp_core.specs.declared.emitted.Emitted.{Emitted}
use Rattle.sp_core.specs.Finishing.{IsEmitted}
use Rattle.sp_core.specs.Running.{IsDone, Running}
use Rattle.sp_spread.specs.Calm.{AreCalm}
use Rattle.sp_splitter.specs.Stages.{Goes, NoneRead, Went}

-- Windows were finished, one after another: each is told by its number, with its matches and the root from then on.
pub data Finishes (old : Running) : Running → List Emitted → Type 0 where
  none_finished : Finishes old old []
  one_finished : (c d : Running) (all : List Emitted) (finished : Emitted) → Finishes old c all
      → IsEmitted c finished → IsDone s.Finish c d → Finishes old d (all ++ finished ∷ [])

-- A window was finished, and emitted its matches. No public clause cites this.
pub record FinishedOne (old new : Running) (finished : Emitted) : Type 0 where
  pub went : (n batch : ℕ) → Went n batch old new
  pub goes : (n : ℕ) → Goes n old new
  pub told : IsEmitted old finished
  pub done : IsDone s.Finish old new
  pub emitted : new.machine.emitted ≡ old.machine.emitted ++ finished.matches.items
  pub read : NoneRead old new
  pub calm : AreCalm new.plan new.machine
