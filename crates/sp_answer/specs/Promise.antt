-- The promise of a call: what it took, what that comes to, and what it wrote and answered. Two things of the command are parameters:
-- the names of the files that it gives, and `is_outcome`, which outcomes it has over what files hold and the bytes taken.
use Rattle.std.specs.Prelude.{◌≡◌, ◌⊎◌, ◌<◌, ℕ, Bool, true, List}
use Rattle.std.specs.List.{Contains}
use Rattle.sp_io.specs.Outside.{SinkState, ToldFiles, IsUsedUp, Rose}
use Rattle.sp_answer.specs.Outcome.{Outcome, Ending, ending, nothing_for, number_of}
use Rattle.sp_answer.specs.Ran.{Outside, Ran, Made}
use Rattle.sp_answer.specs.Written.{TellsLine}
use Rattle.sp_answer.specs.declared.status.Status.{Status}
use Rattle.sp_answer.specs.declared.status.Status.TheVariants.{Memory, Read}

-- the files as the call sees them: what they hold, and how often a load of each name has failed
pub record Filed : Type 0 where
  pub held : ToldFiles
  pub faults : List ℕ → ℕ

abbrev pub filed : ToldFiles → (List ℕ → ℕ) → Filed
filed held faults = record { held = held; faults = faults }

-- A file of the command could not be loaded: nothing is read from the input and nothing is written.
pub record FileFault (names : List (List ℕ)) (before after : Filed) (old new : Outside) (end : Ending) : Type 0 where
  pub name : List ℕ
  pub own : Contains names name
  pub fault : end ≡ ending Read
  pub same : new ≡ old
  pub rose : Rose (before.faults name) (after.faults name)

-- The command is refused, whatever the input has: nothing is read from it and nothing is written.
pub record Refused (is_outcome : List ℕ → Bool → Outcome → Type 0) (old new : Outside) (end : Ending) : Type 0 where
  pub is : (bytes : List ℕ) (ended : Bool) → is_outcome bytes ended (nothing_for end.status)
  pub line : end ≡ ending end.status
  pub same : new ≡ old

-- What was answered.
pub data Answered (names : List (List ℕ)) (is_outcome : List ℕ → Bool → Outcome → Type 0) (before after : Filed) (old new : Outside) (end : Ending) : Type 0 where
  -- memory ran out before the command was known, with nothing read and nothing written
  by_memory : end ≡ ending Memory → new ≡ old → Answered names is_outcome before after old new end
  by_file : FileFault names before after old new end → Answered names is_outcome before after old new end
  by_refusal : Refused is_outcome old new end → Answered names is_outcome before after old new end
  by_run : Ran is_outcome old new end → Answered names is_outcome before after old new end
  by_itself : Made is_outcome old new end → Answered names is_outcome before after old new end

-- A fault of a file of the command is answered: nothing is read and nothing is written then.
abbrev pub FileTold : List (List ℕ) → Filed → Filed → Outside → Outside → Status → Type 0
FileTold names before after old new status =
    (name : List ℕ) → Contains names name → before.faults name < after.faults name → ((status ≡ Read) ⊎ (status ≡ Memory)) × (new ≡ old)

-- No load has failed.
abbrev pub SameCounts : Filed → Filed → Type 0
SameCounts before after = (name : List ℕ) → after.faults name ≡ before.faults name

-- Counts of files are as before, but where that of a file of the command rose. So other commands open none that fails.
abbrev pub OwnFile : List (List ℕ) → Filed → Filed → Type 0
OwnFile names before after = SameCounts before after ⊎ ((name : List ℕ) × Contains names name × Rose (before.faults name) (after.faults name))

-- What a command did to files, input and output, and how it ended. The files hold what they held.
pub record Served (names : List (List ℕ)) (is_outcome : ToldFiles → List ℕ → Bool → Outcome → Type 0) (before after : Filed) (old new : Outside) (end : Ending) : Type 0 where
  pub answered : Answered names (is_outcome before.held) before after old new end
  pub file_told : FileTold names before after old new end.status
  pub files : after.held ≡ before.held
  pub counts : OwnFile names before after

-- The promise: the number is that of a status, the output is what the status says, and the error output has its line. `gives` says which
-- names of files the words give. Where the count of faults of the error output rose its line may be cut short, and nothing else changes.
pub record Promise (gives : List (List ℕ) → Type 0) (is_outcome : ToldFiles → List ℕ → Bool → Outcome → Type 0) (before after : Filed) (old new : Outside) (err_old err_new : SinkState) (result : ℕ) : Type 0 where
  pub names : List (List ℕ)
  pub given : gives names
  pub end : Ending
  pub number : result ≡ number_of end.status
  pub served : Served names is_outcome before after old new end
  -- once the input has ended, nothing of it is left where it tells what is
  pub used_up : new.input.ended ≡ true → IsUsedUp new.input.left
  -- where there is no line the error output is not called
  pub line : TellsLine end.line err_old err_new

-- No count of faults rose: not that of the input, nor of the output, nor of a file of the command.
pub record NoFaultRose (names : List (List ℕ)) (before after : Filed) (old new : Outside) : Type 0 where
  pub input : Rose old.input.faults new.input.faults → ⊥
  pub out : Rose old.out.faults new.out.faults → ⊥
  pub files : (name : List ℕ) → Contains names name → Rose (before.faults name) (after.faults name) → ⊥
