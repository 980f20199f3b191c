-- A run over the input and the output: what it took, what that comes to, and what it wrote and answered.
use Rattle.std.specs.Prelude.{◌≡◌, ◌≢◌, ◌⊎◌, ◌<◌, ◌≤◌, ℕ, Bool, true, false, List, [], ◌++◌, length}
use Rattle.sp_base.specs.Limits.{piece_limit}
use Rattle.sp_io.specs.Outside.{SourceState, SinkState, Gave, Grew, GrewWithin, Rose}
use Rattle.sp_answer.specs.Outcome.{Outcome, Ending, ending_of, line_of, number_of}
use Rattle.sp_answer.specs.declared.status.Status.TheVariants.{Memory, Read, Write}

-- the input and the output, before a call or after it
pub record Outside : Type 0 where
  pub input : SourceState
  pub out : SinkState

abbrev pub outside : SourceState → SinkState → Outside
outside input out = record { input = input; out = out }

-- Reading ends with the piece in which it stops: what was taken before the last piece has the outcome of input that may go on.
pub record ReadsNoFurther (is_outcome : List ℕ → Bool → Outcome → Type 0) (taken : List ℕ) : Type 0 where
  pub front : List ℕ
  pub piece : List ℕ
  pub are : taken ≡ front ++ piece
  pub short : length piece ≤ piece_limit
  pub outcome : Outcome
  pub goes_on : is_outcome front false outcome
  pub is_open : outcome.status ≡ Read

-- A run over the outside. `is_outcome` says which outcome the bytes taken have.
pub record Ran (is_outcome : List ℕ → Bool → Outcome → Type 0) (old new : Outside) (end : Ending) : Type 0 where
  -- the bytes taken in this call, and what they come to
  pub taken : List ℕ
  pub outcome : Outcome
  pub gave : Gave old.input.left taken new.input.left
  pub is : is_outcome taken new.input.ended outcome
  -- no piece is read behind the one in which the reading stops
  pub no_further : ReadsNoFurther is_outcome taken
  -- where the call was cut off neither by want of memory nor by the output, status, line and text are these
  pub exact : end.status ≢ Memory → end.status ≢ Write → (end ≡ ending_of outcome) × Grew old.out.held outcome.text new.out.held
  -- else what was written begins the text, and the line is that of the status
  pub cut_off : (end.status ≡ Memory) ⊎ (end.status ≡ Write) → (end.line ≡ line_of end.status) × GrewWithin old.out.held outcome.text new.out.held
  -- status 0 says that the input was read to its end
  pub read_whole : number_of end.status ≡ 0 → new.input.ended ≡ true
  -- faults come only where counts rose
  pub read_fault : end.status ≡ Read → Rose old.input.faults new.input.faults
  pub write_fault : end.status ≡ Write → Rose old.out.faults new.out.faults × (outcome.text ≢ [])
  -- a fault of the input is answered, and so is one of the output
  pub read_told : old.input.faults < new.input.faults → (end.status ≡ Read) ⊎ ((end.status ≡ Write) ⊎ (end.status ≡ Memory))
  pub write_told : old.out.faults < new.out.faults → (end.status ≡ Write) ⊎ (end.status ≡ Memory)

-- A text that is made without the input: of it nothing is read, and the outcome is the same whatever it has.
pub record Made (is_outcome : List ℕ → Bool → Outcome → Type 0) (old new : Outside) (end : Ending) : Type 0 where
  pub outcome : Outcome
  pub is : (bytes : List ℕ) (ended : Bool) → is_outcome bytes ended outcome
  pub unread : new.input ≡ old.input
  -- where the call was cut off neither by want of memory nor by the output, status, line and text are these
  pub exact : end.status ≢ Memory → end.status ≢ Write → (end ≡ ending_of outcome) × Grew old.out.held outcome.text new.out.held
  -- else what was written begins the text, and the line is that of the status
  pub cut_off : (end.status ≡ Memory) ⊎ (end.status ≡ Write) → (end.line ≡ line_of end.status) × GrewWithin old.out.held outcome.text new.out.held
  -- a fault comes only where its count rose, and one of the output is answered
  pub write_fault : end.status ≡ Write → Rose old.out.faults new.out.faults × (outcome.text ≢ [])
  pub write_told : old.out.faults < new.out.faults → (end.status ≡ Write) ⊎ (end.status ≡ Memory)
