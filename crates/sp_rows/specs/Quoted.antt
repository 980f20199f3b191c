-- Rows read byte by byte, in the words of the crate csv.
use Rattle.std.specs.Prelude.{ℕ, List, drop, Option, Some, None}
use Rattle.csv.specs.Machine.{Read}
use Rattle.csv.specs.declared.parser.State.{State}
use Rattle.csv.specs.declared.parser.State.TheVariants as st
use Rattle.csv.specs.declared.parser.Action.{Action}
use Rattle.csv.specs.declared.parser.Action.TheVariants as act
use Rattle.sp_rows.specs.declared.quoted.At.{At}
use Rattle.sp_rows.specs.declared.quoted.At.TheVariants as at
use Rattle.sp_rows.specs.declared.quoted.Act.{Act}
use Rattle.sp_rows.specs.declared.quoted.Act.TheVariants as does

-- where a reading stands
abbrev pub state_of : At → State
state_of at.Record = st.StartRecord
state_of at.Cell = st.StartField
state_of at.Plain = st.InField
state_of at.Quoted = st.InQuoted
state_of at.Quote = st.AfterQuote
state_of at.Return = st.AfterCr

-- what a byte does
abbrev pub action_of : Act → Action
action_of does.Skip = act.Skip
action_of does.Keep = act.Copy
action_of does.EndCell = act.EndField
action_of does.EndRecord = act.EndRecord

-- where a byte leads, and what it does
abbrev pub moved : At × Act → State × Action
moved step = (state_of step.0, action_of step.1)

-- the record that was read, where the reading then stands, and the bytes behind
abbrev pub read_to : List ℕ → List (List ℕ) → Option (At × ℕ) → Option Read
read_to bytes cells None = None
read_to bytes cells (Some end) = Some (cells, state_of end.0, drop end.1 bytes)
