use Rattle.std.proofs.Common.{◌≡◌, ℕ, List, ◌-◌}
use Rattle.std.specs.Prelude.{filter}
use Rattle.std.specs.List.{range_with_len}
use Rattle.sp_base.specs.Numbers.{is_among}
use Rattle.sp_cert.specs.Flags.{AreFlags}
use Rattle.sp_cert.proofs.flags.flagged.Given as goal

abbrev pub invariant-loop-number : goal.invariant-loop-number
invariant-loop-number l = (members : List ℕ) → AreFlags l.base members l.flags → l.numbers.list ≡ filter (is_among members) (range_with_len l.first (l.number - l.first))
