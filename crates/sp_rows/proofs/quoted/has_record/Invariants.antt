use Rattle.std.proofs.Common.{◌≡◌, ℕ, List, [], drop}
use Rattle.csv.specs.Machine.{next_record}
use Rattle.csv.specs.Reading.{default_config}
use Rattle.sp_rows.specs.Quoted.{state_of}
use Rattle.sp_rows.proofs.quoted.has_record.Given as goal

abbrev pub invariant-loop-byte : goal.invariant-loop-byte
invariant-loop-byte l = (cells : List (List ℕ)) × (cell : List ℕ) × (next_record default_config (state_of l.at) cells cell (drop l.byte-index l.bytes) ≡ next_record default_config (state_of l.fn.from) [] [] l.fn.bytes)
