use Rattle.std.proofs.Common.{◌≡◌, ℕ, ◌<◌, ◌++◌, List, map, length, take, drop}
use Rattle.sp_plan.specs.Runs.{Run}
use Rattle.sp_match.specs.inside.Kept.{kept, pairs}
use Rattle.sp_match.specs.inside.Effects.{run_at}
use Rattle.sp_match.specs.inside.Going.{IsIdle}
use Rattle.sp_match.specs.inside.Takers.{AreAlike, AreHeld, GoesOn, run_in}
use Rattle.sp_match.proofs.holdings.all_follow.Given as goal

abbrev pub invariant-loop-at : goal.invariant-loop-at
invariant-loop-at l = record {
  idle : (i : ℕ) → i < l.at → IsIdle (run_at (map kept l.runs) i);
  held : (rs : List Run) → AreHeld l.offer.plan.now rs l.initial.held → length rs ≡ l.count
      → ((i : ℕ) → i < l.count → GoesOn l.offer.plan.now l.offer.number (run_at (map kept l.runs) i) → AreAlike l.offer.plan.now (run_in rs i) (pairs (run_at (map kept l.runs) i)))
      → AreHeld l.offer.plan.now (take l.at (map pairs (map kept l.runs)) ++ drop l.at rs) l.held;
}
