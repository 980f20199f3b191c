use Rattle.std.proofs.Common.{◌≡◌, ◌≤◌, ◌-◌, length, take}
use Rattle.std.specs.Prelude.{Some}
use Rattle.sp_cut.specs.Scan.{scan}
use Rattle.sp_cut.proofs.ends.first_end.Given as goal

abbrev pub invariant-marks : goal.invariant-marks
invariant-marks l = record { within : l.from ≤ length l.bytes; state : scan l.quoted (take l.from l.bytes) ≡ Some l.state }

abbrev pub decreases-marks : goal.decreases-marks
decreases-marks l = length l.bytes - l.from
