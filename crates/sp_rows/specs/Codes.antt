-- The printed codes of faulty rows.
use Rattle.std.specs.Prelude.{ℕ}
use Rattle.sp_rows.specs.declared.fault.RowKind.{RowKind}
use Rattle.sp_rows.specs.declared.fault.RowKind.TheVariants.{NoHeader, NoColumn, MissingCell, BadNumber, NotUtf8, BackInTime, TwoRows}

-- the code of a fault
abbrev pub code_of : RowKind → ℕ
code_of NoHeader = 1
code_of (NoColumn name) = 2
code_of MissingCell = 3
code_of BadNumber = 4
code_of NotUtf8 = 5
code_of (BackInTime was came) = 6
code_of TwoRows = 7
