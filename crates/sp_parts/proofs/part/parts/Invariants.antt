use Rattle.std.proofs.Common.{◌-◌}
use Rattle.std.specs.Arc.{arc_value}
use Rattle.sp_parts.proofs.Gathering.{Gathered}
use Rattle.sp_parts.proofs.part.parts.Given as goal

abbrev pub invariant-loop-begin : goal.invariant-loop-begin
invariant-loop-begin l = Gathered (arc_value l.fn.plan) l.events l.ended l.parts.items l.begin

abbrev pub decreases-loop-begin : goal.decreases-loop-begin
decreases-loop-begin l = l.count - l.begin
