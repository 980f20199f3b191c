use Rattle.std.proofs.Common.{◌≡◌, [], Some}
use Rattle.sp_io.specs.Outside.{SourceState}
use Rattle.sp_intake.specs.declared.reader.State.TheVariants.{Going}
use Rattle.sp_intake.specs.RowsSeen.{lateness_of, reader_of, rows_at, held_of}
use Rattle.sp_intake.specs.Standing.{GivesBy, Holds, with_held}
use Rattle.sp_intake.proofs.held.Held.go_on.Given as goal

abbrev pub invariant-loop : goal.invariant-loop
invariant-loop l = record {
  gives : (source : SourceState) → GivesBy (with_held (rows_at source l.initial.rows) (Some (held_of l.initial.self))) [] [] (with_held (rows_at source l.rows) (Some (held_of l.self)));
  holds : Holds (reader_of l.rows) l.rows.state (held_of l.self);
  going : l.rows.state ≡ Going;
  lateness : lateness_of l.rows ≡ lateness_of l.initial.rows;
}
