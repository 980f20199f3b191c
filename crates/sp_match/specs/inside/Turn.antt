-- One run's turn in the handling of an event.
use Rattle.std.specs.Prelude.{◌≡◌, ℕ, Bool, List, [], ◌++◌, Option, if◌then◌else◌}
use Rattle.sp_plan.specs.declared.plan.Plan.{Plan}
use Rattle.sp_plan.specs.Windows.{Numbered}
use Rattle.sp_plan.specs.Runs.{departs, takes}
use Rattle.sp_plan.specs.Moves.{Told}
use Rattle.sp_match.specs.declared.turns.Reception.{Reception}
use Rattle.sp_match.specs.inside.Kept.{Kept, pairs}
use Rattle.sp_match.specs.inside.Effects.{runs_after_offer, offer_told, is_skipped, reception_after_offer, run_at}

-- the name under which the run at a place takes an event
abbrev pub taken_at : Plan → ℕ → Numbered → List Kept → Option ℕ
taken_at q at x ks = takes q (pairs (run_at ks at)) x.1

-- whether it leaves where it doesn't take the event
abbrev pub departs_at : Plan → ℕ → Numbered → List Kept → Bool
departs_at q at x ks = departs q (pairs (run_at ks at)) x.1

-- The run at a place was offered an event, where it is open and the event isn't used.
pub record IsTurn (q : Plan) (at : ℕ) (x : Numbered) (old new : List Kept) (before after : List Told) (so_far r : Reception) : Type 0 where
  pub runs : new ≡ (if is_skipped so_far (run_at old at) then old else runs_after_offer q (departs_at q at x old) at x old (taken_at q at x old))
  pub told : after ≡ before ++ (if is_skipped so_far (run_at old at) then [] else offer_told q (departs_at q at x old) at x old (taken_at q at x old))
  pub received : r ≡ (if is_skipped so_far (run_at old at) then so_far else reception_after_offer q x (run_at old at) so_far (taken_at q at x old))
