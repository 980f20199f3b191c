use Rattle.std.proofs.Common.{◌≡◌, take}
use Rattle.sp_lex.specs.Reading.{with_more}
use Rattle.sp_lex.proofs.number.with_more.Given as goal

abbrev pub invariant-loop-digit : goal.invariant-loop-digit
invariant-loop-digit l = l.value ≡ with_more l.fn.number (take l.digit-index l.digits)
