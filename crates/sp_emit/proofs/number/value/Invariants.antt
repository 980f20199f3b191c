use Rattle.std.proofs.Common.{◌≡◌, take}
use Rattle.sp_emit.specs.Reading.{digits_value}
use Rattle.sp_emit.proofs.number.value.Given as goal

abbrev pub invariant-loop-digit : goal.invariant-loop-digit
invariant-loop-digit l = l.value ≡ digits_value (take l.digit-index l.digits)
