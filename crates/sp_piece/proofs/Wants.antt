-- What the open runs want where an event changes nothing.
use Rattle.std.proofs.Common.{ℕ, List, []}
use Rattle.sp_piece.specs.Reading.{Account}

-- the account of an event that changes nothing
abbrev pub of_wants : List (ℕ × ℕ) → Account
of_wants ws = record { told = []; wanted = ws }
