use Rattle.std.proofs.Common.{◌≡◌, ℕ, ◌<◌, true, map, length, take, get_or}
use Rattle.sp_plan.specs.Masks.{has}
use Rattle.sp_match.specs.inside.Kept.{kept, pairs}
use Rattle.sp_match.specs.inside.Takers.{columns_of, columns_over, is_read, is_wanted, mask_of, masks_of, reads_of, run_in}
use Rattle.sp_match.proofs.holdings.keep.Given as goal

abbrev pub invariant-loop-name : goal.invariant-loop-name
invariant-loop-name l = record {
  size : length l.kept.items ≡ l.name;
  wanting : (name at : ℕ) → name < l.name → at < length l.runs → has (mask_of (masks_of l.kept.items) name) at ≡ is_wanted l.plan (run_in (map pairs (map kept l.runs)) at) name;
  columns : columns_of l.kept.items ≡ columns_over (map pairs (map kept l.runs)) (take l.name l.names);
  reads : (name : ℕ) → name < l.name → get_or (reads_of l.kept.items) name true ≡ is_read l.plan name;
}
