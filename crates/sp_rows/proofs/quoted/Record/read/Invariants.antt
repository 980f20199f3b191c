use Rattle.std.proofs.Common.{◌≡◌, [], drop}
use Rattle.csv.specs.Machine.{next_record}
use Rattle.csv.specs.Reading.{default_config}
use Rattle.csv.specs.declared.parser.State.TheVariants as st
use Rattle.sp_rows.specs.Quoted.{state_of}
use Rattle.sp_rows.proofs.quoted.Record.read.Given as goal

abbrev pub invariant-loop-place : goal.invariant-loop-place
invariant-loop-place l = next_record default_config (state_of l.at) l.self.cells l.self.cell (drop l.place l.bytes) ≡ next_record default_config st.StartRecord [] [] l.bytes
