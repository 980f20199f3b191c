use Rattle.std.proofs.Common.{◌≡◌, ◌+◌, ◌-◌, length, take}
use Rattle.sp_cert.specs.Flags.{AreFlags}
use Rattle.sp_cert.specs.Proofs.{used_by}
use Rattle.sp_cert.proofs.flags.used_within.Given as goal

abbrev pub invariant-loop-one : goal.invariant-loop-one
invariant-loop-one l = record {
  flags : AreFlags l.first (used_by (take l.one-index l.matches)) l.flags.items;
  size : length l.flags.items ≡ l.last - l.first + 1;
}
