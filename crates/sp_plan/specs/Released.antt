-- What comes out of bound events that are taken away.
use Rattle.std.specs.Prelude.{◌≡◌, List, [], ◌∷◌, ◌++◌, map, reverse}
use Rattle.sp_plan.specs.declared.event.Event.{Event}
use Rattle.sp_plan.specs.Values.{BoundEvents}

-- Some of these events, in their order.
pub data AreSome : List Event → List Event → Type 0 where
  none : AreSome [] []
  taken : (e : Event) (some all : List Event) → AreSome some all → AreSome (e ∷ some) (e ∷ all)
  left : (e : Event) (some all : List Event) → AreSome some all → AreSome some (e ∷ all)

-- Behind what stood in the list before stand some of these events, the last one first.
pub record AreReleased (events before after : List Event) : Type 0 where
  pub some : List Event
  pub behind : after ≡ before ++ some
  pub released : AreSome some (reverse events)

-- the events that are bound
abbrev pub events_of : BoundEvents → List Event
events_of b = map (λ pair. pair.1) b
