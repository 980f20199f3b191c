use Rattle.std.proofs.Common.{◌≡◌, ◌≤◌, vec_len, vec_capacity}
use Rattle.std.specs.List.{sum}
use Rattle.sp_hub.proofs.exchange.none_put.Given as goal

abbrev pub invariant-loop : goal.invariant-loop
invariant-loop l = record {
  len : vec_len l.into ≡ l.counter;
  none : sum l.into.items ≡ 0;
  room : l.count ≤ vec_capacity l.into;
}
