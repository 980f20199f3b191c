-- The printed codes of refusals.
use Rattle.std.specs.Prelude.{ℕ}
use Rattle.sp_group.specs.declared.refusal.Refusal.{Refusal}
use Rattle.sp_group.specs.declared.refusal.Refusal.TheVariants as r

-- 1 to 13
abbrev pub code_of : Refusal → ℕ
code_of r.AfterEnd = 1
code_of (r.NotLive version) = 2
code_of (r.NotOpen group) = 3
code_of (r.LabelTaken child) = 4
code_of (r.NoWindow number) = 5
code_of (r.Full live bound) = 6
code_of (r.Out ticket) = 7
code_of (r.Conflict event) = 8
code_of (r.NoConflict version) = 9
code_of (r.NothingToRead position) = 10
code_of (r.NotDone finished) = 11
code_of (r.TooManyEvents limit) = 12
code_of (r.NoTicket ticket) = 13
