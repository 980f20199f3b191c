-- What is known of an event before any run is offered it.
use Rattle.std.specs.Prelude.{◌≡◌, Bool, true, false, List, [], length, None, is_some, ◌==◌, if◌then◌else◌}
use Rattle.std.specs.List.{list_any}
use Rattle.sp_plan.specs.declared.event.Event.{Event}
use Rattle.sp_plan.specs.declared.plan.Name.{Name}
use Rattle.sp_plan.specs.declared.plan.Plan.{Plan}
use Rattle.sp_plan.specs.Known.{may_hold}
use Rattle.sp_plan.specs.Runs.{Run, guarded, takes}
use Rattle.sp_match.specs.declared.known.Known.{Known}
use Rattle.sp_match.specs.declared.known.Known.TheVariants.{Never, Onward, Any}

-- what is known of the event is so
abbrev pub IsKnown : Plan → Event → Known → Type 0
IsKnown q e Never = (r : Run) → (takes q r e ≡ None) × (guarded q r e ≡ false)
IsKnown q e Onward = takes q [] e ≡ None
IsKnown q e Any = Unit {0}

-- whether a name's predicate may hold of the event
abbrev pub may_take : Event → Name → Bool
may_take e name = may_hold name.pred e

-- whether an event of which this is known is passed over where these runs are open: where it counts for no run, and where none is open and it begins none
abbrev pub is_ignored : {X : Type 0} → Known → List X → Bool
is_ignored Never runs = true
is_ignored Onward runs = length runs == 0
is_ignored Any runs = false

-- as much as is known of the event: that a run which has bound nothing takes it, so that no more can be said; or else whether some predicate may hold of it
abbrev pub known_by : Plan → Event → Known
known_by q e = if is_some (takes q [] e) then Any else if list_any (may_take e) q.names then Onward else Never
