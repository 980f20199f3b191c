-- What a command reads of its input, and what it is given then.
use Rattle.std.specs.Prelude.{◌≡◌, ◌<◌, ◌≤◌, ℕ, false, List, ◌++◌, length, Result, IfOk}
use Rattle.std.specs.declared.alloc.AllocError.{AllocError}
use Rattle.sp_base.specs.Limits.{piece_limit}
use Rattle.sp_io.specs.Outside.{SourceState, Gave, Rose}
use Rattle.sp_plan.specs.declared.plan.Plan.{Plan}
use Rattle.sp_ports.specs.Giving.{AreGood}
use Rattle.sp_ports.specs.declared.stop.Stop.TheVariants.{Open}
use Rattle.sp_answer.specs.declared.status.Status.TheVariants.{Read}
use Rattle.sp_commands.specs.declared.given.Given.{Given}
use Rattle.sp_commands.specs.Ends.{Came, CameFrom}

-- Reading ends with the piece in which it stops: what was taken before the last piece is that of input that may go on.
pub record StopsInTime (way : CameFrom) (taken : List ℕ) : Type 0 where
  pub front : List ℕ
  pub piece : List ℕ
  pub are : taken ≡ front ++ piece
  pub short : length piece ≤ piece_limit
  pub goes_on : (way front false).status ≡ Read

-- what was given, as what came of the input
abbrev pub came_of : Given → Came
came_of given = record { events = given.events.items; stop = given.stop; status = given.status }

-- A reading of the input: the bytes that it took and, where memory did not run out, what came of them.
pub record Brings (q : Plan) (way : CameFrom) (old new : SourceState) (result : Result Given AllocError) : Type 0 where
  pub taken : List ℕ
  pub gave : Gave old.left taken new.left
  pub no_further : StopsInTime way taken
  pub is : IfOk result (λ given. came_of given ≡ way taken new.ended)
  pub good : IfOk result (λ given. AreGood q given.events.items)
  -- the source failed exactly where the reading stops open
  pub fault : IfOk result (λ given. given.stop ≡ Open → Rose old.faults new.faults)
  pub told : IfOk result (λ given. old.faults < new.faults → given.stop ≡ Open)
