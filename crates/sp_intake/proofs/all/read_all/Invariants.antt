use Rattle.sp_intake.specs.RowsSeen.{rows_at}
use Rattle.sp_intake.specs.Standing.{RowsGive}
use Rattle.sp_intake.proofs.all.read_all.Given as goal

abbrev pub invariant-loop : goal.invariant-loop
invariant-loop g l = record {
  gives : RowsGive (rows_at (g.S.Source.state l.initial.input) l.initial.rows) l.events.items (rows_at (g.S.Source.state l.input) l.rows);
}
