use Rattle.std.proofs.Common.{◌≡◌, ◌+◌, ◌≤◌, ◌++◌, map, vec_len}
use Rattle.std.specs.List.{sum, sum_by}
use Rattle.crossbeam_queue.specs.Passes.{view, IsPassOf}
use Rattle.sp_hub.specs.State.{Sitting}
use Rattle.sp_hub.specs.WayHome.{poster}
use Rattle.sp_hub.proofs.Backs.{account, Counted}
use Rattle.sp_hub.proofs.settling.settle.Given as goal

abbrev pub invariant-loop-seat : goal.invariant-loop-seat
invariant-loop-seat g l = record {
  parts : l.all.parts + vec_len l.seats ≡ 1 + vec_len l.fn.seats;
  amount : l.all.amount + sum_by (λ (s : Sitting). s.calls) l.seats.items ≡ l.fn.by.calls + sum_by (λ (s : Sitting). s.calls) l.fn.seats.items;
  pass : IsPassOf l.way l.pass;
  knows : view l.pass ≡ poster (view l.pass).made l.fn.by.got (view l.pass).joined;
  made : (view l.pass).made ≡ vec_len l.fn.puts;
  joined : map account l.seats.items ++ (view l.pass).joined ≡ map account l.fn.seats.items;
  len : vec_len l.puts ≡ vec_len l.fn.puts;
  counted : Counted l.puts.items (view l.pass).joined;
  fewer : sum l.puts.items + sum_by (λ (s : Sitting). s.calls) l.seats.items ≤ sum_by (λ (s : Sitting). s.calls) l.fn.seats.items;
}

abbrev pub decreases-loop-seat : goal.decreases-loop-seat
decreases-loop-seat g l = vec_len l.seats
