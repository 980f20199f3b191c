use Rattle.std.proofs.Common.{◌≡◌, []}
use Rattle.sp_io.specs.Outside.{SourceState}
use Rattle.sp_intake.specs.declared.reader.State.TheVariants.{Going}
use Rattle.sp_intake.specs.RowsSeen.{lateness_of, rows_at}
use Rattle.sp_intake.specs.Standing.{Reads}
use Rattle.sp_intake.proofs.reader.RowReader.poll.Given as goal

abbrev pub invariant-loop : goal.invariant-loop
invariant-loop l = record {
  reads : (source : SourceState) → Reads (rows_at source l.initial.self) [] [] (rows_at source l.self);
  going : l.self.state ≡ Going;
  lateness : lateness_of l.self ≡ lateness_of l.initial.self;
}
