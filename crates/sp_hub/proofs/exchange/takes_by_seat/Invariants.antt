use Rattle.std.proofs.Common.{◌≡◌, ◌≤◌, vec_len, vec_capacity}
use Rattle.sp_hub.specs.History.{is_take_by}
use Rattle.sp_hub.specs.Calls.{by_seat}
use Rattle.sp_hub.proofs.exchange.takes_by_seat.Given as goal

abbrev pub invariant-loop-number : goal.invariant-loop-number
invariant-loop-number l = record {
  into : l.into.items ≡ by_seat is_take_by l.number l.entries;
  len : vec_len l.into ≡ l.number;
  room : l.count ≤ vec_capacity l.into;
}
