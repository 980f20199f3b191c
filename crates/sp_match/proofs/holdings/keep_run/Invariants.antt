use Rattle.std.proofs.Common.{◌≡◌, ℕ, ◌<◌, ◌++◌, List, map, length, take, drop}
use Rattle.sp_plan.specs.Held.{held_columns, put}
use Rattle.sp_plan.specs.declared.plan.Name.{Name}
use Rattle.sp_plan.specs.Masks.{has}
use Rattle.sp_plan.specs.Runs.{bound_events}
use Rattle.sp_plan.specs.Values.{BoundEvents}
use Rattle.sp_match.specs.inside.Kept.{kept, pairs}
use Rattle.sp_match.specs.inside.Takers.{columns_of, is_wanted, mask_of, masks_of, reads_of}
use Rattle.sp_match.proofs.holdings.keep_run.Given as goal

abbrev pub invariant-loop-name : goal.invariant-loop-name
invariant-loop-name l = record {
  size : length l.held ≡ length l.initial.held;
  reads : reads_of l.held ≡ reads_of l.initial.held;
  here : (name : ℕ) → name < l.name → has (mask_of (masks_of l.held) name) l.at ≡ is_wanted l.plan (pairs (kept l.run)) name;
  others : (name other : ℕ) → other < 64 → (other ≡ l.at → ⊥) → has (mask_of (masks_of l.held) name) other ≡ has (mask_of (masks_of l.initial.held) name) other;
  columns : (bounds : List BoundEvents) → columns_of l.initial.held ≡ map (λ (x : Name). held_columns x.pred bounds) l.plan.names
      → columns_of l.held ≡ take l.name (map (λ (x : Name). held_columns x.pred (put bounds l.at (bound_events (pairs (kept l.run))))) l.plan.names) ++ drop l.name (map (λ (x : Name). held_columns x.pred bounds) l.plan.names);
}
