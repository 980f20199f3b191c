use Rattle.std.proofs.Common.{◌≡◌, [], map, take, drop}
use Rattle.sp_compile.specs.Checks.{columns_fault}
use Rattle.sp_compile.proofs.columns.columns_fault.Given as goal

abbrev pub invariant-loop-at : goal.invariant-loop-at
invariant-loop-at l = columns_fault [] l.columns ≡ columns_fault (map (λ column. column.name.text) (take l.at l.columns)) (drop l.at l.columns)
