use Rattle.std.proofs.Common.{◌≡◌, ◌≤◌, length, take, vec_len, vec_capacity}
use Rattle.sp_hub.specs.Calls.{told_over}
use Rattle.sp_hub.proofs.exchange.told_of.Given as goal

abbrev pub invariant-loop-seat : goal.invariant-loop-seat
invariant-loop-seat g l = record {
  into : l.into.items ≡ told_over (take l.seat-index l.seats);
  len : vec_len l.into ≤ l.seat-index;
  room : length l.seats ≤ vec_capacity l.into;
}
