use Rattle.std.proofs.Common.{◌≡◌, ◌++◌, take, drop}
use Rattle.sp_rows.specs.Plain.{HasNoBreak, nexts_from}
use Rattle.sp_rows.proofs.split.find_cells.Given as goal

abbrev pub invariant-loop-place : goal.invariant-loop-place
invariant-loop-place l = record {
  places : l.nexts.items ++ nexts_from l.place (drop l.place l.row) ≡ nexts_from 0 l.row;
  none : HasNoBreak (take l.place l.row);
}
