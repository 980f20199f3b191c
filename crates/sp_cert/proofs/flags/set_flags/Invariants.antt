use Rattle.std.proofs.Common.{ℕ, List, ◌++◌, take}
use Rattle.sp_cert.specs.Flags.{AreFlags}
use Rattle.sp_cert.proofs.flags.set_flags.Given as goal

abbrev pub invariant-loop-number : goal.invariant-loop-number
invariant-loop-number l = (before : List ℕ) → AreFlags l.first before l.initial.flags → AreFlags l.first (before ++ take l.number-index l.numbers) l.flags
