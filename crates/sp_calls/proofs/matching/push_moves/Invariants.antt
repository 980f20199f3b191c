use Rattle.std.proofs.Common.{◌≡◌, ◌≤◌, ◌+◌}
use Rattle.sp_match.specs.public.Laws.{Below}
use Rattle.sp_match.specs.public.Matching.{runs_of}
use Rattle.sp_calls.proofs.matching.push_moves.Given as goal

abbrev pub invariant-loop-event : goal.invariant-loop-event
invariant-loop-event l = record {
  plan : l.matcher.plan ≡ l.plan;
  below : Below l.number (runs_of l.matcher);
  few : l.number ≤ l.event-index + 1;
}
