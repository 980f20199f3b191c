use Rattle.std.proofs.Common.{◌≡◌, length, map, take}
use Rattle.std.specs.Vec.{vec_capacity}
use Rattle.sp_plan.specs.Held
use Rattle.sp_plan.proofs.held.column_of.Given as goal

abbrev pub invariant-loop-run : goal.invariant-loop-run
invariant-loop-run g l = record {
  so_far : l.values.items ≡ Held.held_column (map g.R.Binds.binds (take l.run-index l.runs)) l.side;
  room : vec_capacity l.values ≡ length l.runs;
}
