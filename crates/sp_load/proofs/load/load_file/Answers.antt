use Rattle.std.proofs.Common.{refl}
use Rattle.sp_load.specs.Places.{long_file}
use Rattle.sp_load.proofs.load.load_file.Goals as goal

pub returns-in-Ok-TooLong-clause-refused : goal.returns-in-Ok-TooLong-clause-refused
returns-in-Ok-TooLong-clause-refused g c = (refl, long_file c.args.name.now (rw c.in-Ok-TooLong.field-0-is at c.in-Ok-TooLong.ensures.too_long))
