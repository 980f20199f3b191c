use Rattle.sp_io.proofs.Given.{gave}
use Rattle.std.proofs.Common.{rules}
use Rattle.sp_io.proofs.byte_source.ByteSource.give.Goals as goal

pub returns-clause-bytes : goal.returns-clause-bytes
returns-clause-bytes c =
    let b = c.args.self.now in
    gave b.ended b.bytes.items c.args.into.now c.copy_from_slice.new.self b.given c.min-count.result c.if-self.false (search (rules, c.copy_from_slice.ensures.after)) (search (rules, c.copy_from_slice.ensures.len))
