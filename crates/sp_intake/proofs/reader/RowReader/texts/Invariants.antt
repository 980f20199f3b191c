use Rattle.std.proofs.Common.{◌≡◌, map, take}
use Rattle.std.specs.Prelude.{string_bytes}
use Rattle.sp_intake.specs.Reader.{texts_of}
use Rattle.sp_intake.specs.RowsSeen.{reader_of}
use Rattle.sp_intake.proofs.reader.RowReader.texts.Given as goal

abbrev pub invariant-loop-number : goal.invariant-loop-number
invariant-loop-number l = map string_bytes l.texts.items ≡ take l.number (texts_of (reader_of l.self))
