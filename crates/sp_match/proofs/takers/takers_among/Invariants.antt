use Rattle.std.proofs.Common.{◌≡◌, ℕ, ◌+◌, ◌<◌, ◌≤◌, false, map, length, vec_len}
use Rattle.std.specs.Prelude.{vec_capacity}
use Rattle.sp_plan.specs.Masks.{has}
use Rattle.sp_match.specs.inside.Kept.{kept, pairs}
use Rattle.sp_match.specs.inside.Takers.{mask_of, run_in, takes_under}
use Rattle.sp_match.proofs.takers.takers_among.Given as goal

abbrev pub invariant-loop-name : goal.invariant-loop-name
invariant-loop-name l = record {
  size : length l.takers.masks.items ≡ l.name;
  room : vec_len l.takers.masks + length l.plan.names ≤ vec_capacity l.takers.masks + l.name;
  seen : (name at : ℕ) → name < l.name → at < length l.runs → has (mask_of l.takers.masks.items name) at ≡ takes_under l.plan l.event (run_in (map pairs (map kept l.runs)) at) name;
  any : (name at : ℕ) → name < l.name → at < length l.runs → has l.takers.any at ≡ false → takes_under l.plan l.event (run_in (map pairs (map kept l.runs)) at) name ≡ false;
}
