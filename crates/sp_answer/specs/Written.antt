-- What is written to the outputs.
use Rattle.std.specs.Prelude.{◌≡◌, ◌≢◌, ℕ, List, [], Result, Ok}
use Rattle.std.specs.declared.alloc.AllocError.{AllocError}
use Rattle.sp_io.specs.Outside.{SinkState, Grew, GrewWithin, Rose}
use Rattle.sp_answer.specs.declared.written.Written.{Written}
use Rattle.sp_answer.specs.declared.written.Written.TheVariants.{All, Failed}

-- A text was written by its lines: all of it, or a beginning where the output failed or memory ran out.
pub record WritesText (text : List ℕ) (old new : SinkState) (result : Result Written AllocError) : Type 0 where
  pub all : result ≡ Ok All → Grew old.held text new.held
  pub within : GrewWithin old.held text new.held
  pub failed : result ≡ Ok Failed → Rose old.faults new.faults × (text ≢ [])
  pub not_failed : result ≢ Ok Failed → new.faults ≡ old.faults

-- A line was told: where the count of faults rose it may be cut short, and no call is made for an empty one.
pub record TellsLine (line : List ℕ) (old new : SinkState) : Type 0 where
  pub whole : (Rose old.faults new.faults → ⊥) → Grew old.held line new.held
  pub front : GrewWithin old.held line new.held
  pub silent : line ≡ [] → new ≡ old
