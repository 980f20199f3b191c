-- An event that is offered to the runs of a window.
use Rattle.std.specs.Prelude.{◌≡◌, ℕ, false, [], Option, IfSome}
use Rattle.sp_plan.specs.declared.event.Event.{Event}
use Rattle.sp_plan.specs.declared.plan.Plan.{Plan}
use Rattle.sp_plan.specs.Bounds.{IsSmall}
use Rattle.sp_plan.specs.Compiled.{IsCompiled}
use Rattle.sp_plan.specs.Masks.{has}
use Rattle.sp_plan.specs.Runs.{Run, name_holds}
use Rattle.sp_plan.specs.Windows.{Numbered}
use Rattle.sp_scan.specs.declared.offer.Offer.{Offer}
use Rattle.sp_scan.specs.inside.Ahead.{IsAhead}

-- the event with its number
abbrev pub numbered : Offer → Numbered
numbered o = (o.number, o.event.now)

-- A name that is not among those of the mask has a predicate that does not hold of the event, whatever a run has bound.
abbrev pub NoOtherHolds : Plan → Event → ℕ → Type 0
NoOtherHolds q e mask = (name : ℕ) → has mask name ≡ false → (r : Run) → name_holds q r e name ≡ false

-- The plan is compiled, the event's numbers are small, the names that may hold of it are told, and the run that a new one begins as has
-- bound none.
pub record IsOffer (o : Offer) : Type 0 where
  pub compiled : IsCompiled o.plan.now
  pub small : IsSmall o.event.now
  pub may_is : NoOtherHolds o.plan.now o.event.now o.may
  pub none : o.empty.now.pairs ≡ []
  pub ahead_is : IsAhead o.plan.now [] o.empty.now.ahead

-- What runs share of an event is the event, where one has bound it.
abbrev pub IsShared : Offer → Option Event → Type 0
IsShared o shared = IfSome shared (λ event. event ≡ o.event.now)
