use Rattle.std.proofs.Common.{refl}
use Rattle.sp_io.proofs.Kept.{kept_front_is}
use Rattle.sp_io.proofs.memory_sink.MemSinkSink.write_all.Goals as goal

pub returns-clause-err : goal.returns-clause-err
returns-clause-err c = kept_front_is _ c.args.self.now.bytes.items c.extend_from_slice.new.self.items c.args.piece.now _ c.min-kept.result refl c.extend_from_slice.ensures.items
