use Rattle.std.proofs.Common.{◌≡◌, ◌+◌, ◌≤◌, [], map, vec_len, vec_capacity}
use Rattle.std.specs.List.{range_with_len}
use Rattle.crossbeam_queue.specs.Passes.{view, IsPassOf}
use Rattle.sp_hub.specs.Calls.{fresh_seat}
use Rattle.sp_hub.specs.WayHome.{poster}
use Rattle.sp_hub.proofs.exchange.Hub.new.Given as goal

abbrev pub invariant-loop-number : goal.invariant-loop-number
invariant-loop-number g l = record {
  parts : l.rest.parts + l.number ≡ l.seats;
  amount : l.rest.amount ≡ 0;
  pass : IsPassOf l.way l.pass;
  knows : view l.pass ≡ poster l.number [] [];
  made : l.made.items ≡ map fresh_seat (range_with_len 0 l.number);
  len : vec_len l.made ≡ l.number;
  room : l.seats ≤ vec_capacity l.made;
}
