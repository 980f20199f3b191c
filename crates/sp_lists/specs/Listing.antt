-- A list of events as an intake.
use Rattle.std.specs.Prelude.{◌≡◌, ℕ, Bool, ◌&&◌, List, [], ◌∷◌, ◌++◌, Option, Some, None, nat_lt, if◌then◌else◌}
use Rattle.std.specs.Arc.{arc_value}
use Rattle.std.specs.Vec.Iter.{into_iter_items}
use Rattle.sp_plan.specs.declared.event.Event.{Event}
use Rattle.sp_plan.specs.declared.plan.Plan.{Plan}
use Rattle.sp_ports.specs.declared.intake.Next.{Next}
use Rattle.sp_ports.specs.declared.intake.Next.TheVariants as next
use Rattle.sp_ports.specs.declared.stop.Stop.{Stop}
use Rattle.sp_ports.specs.Stopping.{is_end}
use Rattle.sp_ports.specs.Taking.{counted}
use Rattle.sp_lists.specs.declared.list_intake.ListIntake.{ListIntake}

-- a list as its callers see it: the plan that its events fit, those that it has not given, what comes behind them, and how often it told that
pub record Listing : Type 0 where
  pub plan : Plan
  pub left : List Event
  pub stop : Stop
  pub told : ℕ

abbrev pub listing : ListIntake → Listing
listing list = record { plan = arc_value list.plan; left = into_iter_items list.events; stop = list.stop; told = list.told }

-- a list that has given none of these events
abbrev pub listed : Plan → List Event → Stop → Listing
listed q events stop = record { plan = q; left = events; stop = stop; told = 0 }

-- what a list answers where no event is left
abbrev pub told_by : Stop → Next
told_by stop = if is_end stop then next.End else next.Stop stop

-- what a list answers by the events that are left
abbrev pub answer_of : List Event → Stop → Next
answer_of [] stop = told_by stop
answer_of (e ∷ events) stop = next.Event e

abbrev pub answer : Listing → Next
answer l = answer_of l.left l.stop

-- a list behind its answer, by the events that were left
abbrev pub after_of : Listing → List Event → Listing
after_of l [] = record l { told = counted l.told 1 }
after_of l (e ∷ events) = record l { left = events }

abbrev pub after : Listing → Listing
after l = after_of l l.left

-- whether a list has told that there are no more
abbrev pub is_over : Listing → Bool
is_over l = nat_lt 0 l.told

-- whether it told the end of its input
abbrev pub has_ended : Listing → Bool
has_ended l = is_end l.stop && is_over l

-- how often it told that it stopped before
abbrev pub stops_of : Listing → ℕ
stops_of l = if is_end l.stop then 0 else l.told

-- what it told, if anything
abbrev pub cause_of : Listing → Option Stop
cause_of l = if is_over l then Some l.stop else None

-- from one state to another a list gave these events
pub record Gives (old : Listing) (events : List Event) (new : Listing) : Type 0 where
  pub are : old.left ≡ events ++ new.left
  pub stop : new.stop ≡ old.stop

-- it did, and asked the outside for none of them
pub record AsksNever (old : Listing) (before events : List Event) (new : Listing) : Type 0 where
  pub none : before ≡ []
  pub gave : Gives old events new
