use Rattle.std.proofs.Common.{◌≡◌, ◌≤◌, false, pos}
use Rattle.sp_calls.proofs.windows.feed.Given as goal

abbrev pub invariant-loop-event : goal.invariant-loop-event
invariant-loop-event l = record {
  plan : l.windows.plan ≡ l.plan;
  going : l.windows.ended ≡ false;
  fed : l.windows.fed ≤ l.event-index;
  last : pos l.windows.time ≡ l.last;
}
