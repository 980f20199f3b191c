use Rattle.sp_chance.proofs.Columns.{AreKept}
use Rattle.sp_chance.proofs.powers.write_columns.Given as goal

abbrev pub invariant-loop-power : goal.invariant-loop-power
invariant-loop-power l = AreKept l.rows l.one l.current l.columns l.power
