-- An event that is offered to the runs of a window.
use Rattle.std.specs.Prelude.{◌≡◌, ℕ, Bool, true, false, List, Option, IfSome, IsTrue}
use Rattle.sp_plan.specs.declared.event.Event.{Event}
use Rattle.sp_plan.specs.Bounds.{IsSmall}
use Rattle.sp_plan.specs.Compiled.{IsCompiled}
use Rattle.sp_plan.specs.Windows.{Numbered}
use Rattle.sp_plan.specs.declared.plan.Plan.{Plan}
use Rattle.sp_plan.specs.Masks.{has}
use Rattle.sp_plan.specs.Runs.{Run, leaves, name_holds}
use Rattle.sp_match.specs.declared.offer.Offer.{Offer}
use Rattle.sp_match.specs.public.Known.{IsKnown}
use Rattle.sp_match.specs.declared.takers.Takers.{Takers}
use Rattle.sp_match.specs.inside.Takers.{AreTold, IsTold, mask_of}

-- the event with its number
abbrev pub numbered : Offer → Numbered
numbered o = (o.number, o.event.now)

-- whether the policy has each open run leave that doesn't take the event
abbrev pub lets_leave : Offer → Bool
lets_leave o = leaves o.plan.now.select o.plan.now o.event.now

-- The plan is compiled, the event's values are small, and what is known of it is so.
pub record IsOffer (o : Offer) : Type 0 where
  pub compiled : IsCompiled o.plan.now
  pub small : IsSmall o.event.now
  pub known : IsKnown o.plan.now o.event.now o.known

-- What runs share of an event is the event, where one has bound it.
abbrev pub IsShared : Offer → Option Event → Type 0
IsShared o shared = IfSome shared (λ event. event ≡ o.event.now)

-- what takers tell of the run at a place and a name, where they tell of the event; else what its predicate says of the run
abbrev pub answer_by : Bool → Takers → Plan → Event → ℕ → Run → ℕ → Bool
answer_by false t q e at r name = name_holds q r e name
answer_by true t q e at r name = has (mask_of t.masks.items name) at

-- so of an offer
abbrev pub answer : Offer → ℕ → Run → ℕ → Bool
answer o at r name = answer_by o.is_told o.takers.now o.plan.now o.event.now at r name

-- What takers tell of the run at a place is so where these are its pairs.
abbrev pub IsToldAt : Offer → ℕ → Run → Type 0
IsToldAt o at r = IsTrue o.is_told → IsTold o.plan.now o.event.now o.takers.now at r

-- What they tell is so of these runs.
abbrev pub AllTold : Offer → List Run → Type 0
AllTold o rs = IsTrue o.is_told → AreTold o.plan.now o.event.now o.takers.now rs
