-- What is true of every plan and event.
use Rattle.std.specs.Prelude.{◌≡◌, ℕ, ◌+◌, ◌-◌, ◌<◌, ◌≤◌, true, not, List, ◌++◌, length, take, drop, filter}
use Rattle.sp_base.specs.Numbers.{is_among}
use Rattle.sp_plan.specs.declared.event.Event.{Event}
use Rattle.sp_plan.specs.declared.plan.Plan.{Plan}
use Rattle.sp_plan.specs.declared.plan.Pred.{Pred}
use Rattle.sp_plan.specs.Events.{fits}
use Rattle.sp_plan.specs.Bounds.{IsSmall}
use Rattle.sp_plan.specs.Same.{SamePred, SamePlan}
use Rattle.sp_plan.specs.Values.{BoundEvents, holds}
use Rattle.sp_plan.specs.Windows.{numbered}
use Rattle.sp_plan.specs.Runs.{state}
use Rattle.sp_plan.specs.Reading.{reading}

-- The numbers of an event that fits a plan are at most 10^15 in magnitude.
abbrev pub FittingEventsAreSmall : Type 0
FittingEventsAreSmall = (q : Plan) (e : Event) → fits q e ≡ true → IsSmall e

-- A plan is the same as itself.
abbrev pub PlansAreThemselves : Type 0
PlansAreThemselves = (q : Plan) → SamePlan q q

-- Predicates that are one but for addresses hold of the same events.
abbrev pub SamePredicatesHoldAlike : Type 0
SamePredicatesHoldAlike = (p r : Pred) (e : Event) (b : BoundEvents) → SamePred p r → holds p e b ≡ holds r e b

-- The reading of events comes to the state of those of them that are there and aren't skipped; other numbers to skip, and events behind those read, don't count.
pub record ReadingIsState : Type 0 where
  pub state_is : (q : Plan) (events : List Event) (skipped : List ℕ) (first n : ℕ) → 1 ≤ first
      → reading q events skipped first n ≡ state q (filter (λ x. not (is_among skipped x.0)) (take n (drop (first - 1) (numbered events))))
  pub skipped_within : (q : Plan) (events : List Event) (skipped others : List ℕ) (first n : ℕ) → ((i : ℕ) → first ≤ i → i < first + n → is_among skipped i ≡ is_among others i)
      → reading q events skipped first n ≡ reading q events others first n
  pub more_behind : (q : Plan) (events more : List Event) (skipped : List ℕ) (first n : ℕ) → 1 ≤ first → first + n ≤ length events + 1
      → reading q (events ++ more) skipped first n ≡ reading q events skipped first n
