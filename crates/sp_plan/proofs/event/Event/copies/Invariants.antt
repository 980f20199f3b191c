use Rattle.std.proofs.Common.{◌≡◌, length, take, vec_capacity, vec_len}
use Rattle.sp_plan.proofs.event.Event.copies.Given as goal

-- those before the place were copied, and there is room for the others
abbrev pub invariant-loop-event : goal.invariant-loop-event
invariant-loop-event l = (l.list.items ≡ take l.event-index l.events) × (vec_len l.list ≡ l.event-index) × (vec_capacity l.list ≡ length l.events)
