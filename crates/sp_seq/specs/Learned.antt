-- What is known of the events of the input.
use Rattle.std.specs.Prelude.{ℕ, ◌<◌, List, length, slice_index_or}
use Rattle.sp_plan.specs.declared.event.Event.{Event}
use Rattle.sp_plan.specs.declared.plan.Plan.{Plan}
use Rattle.sp_match.specs.declared.known.Known.{Known}
use Rattle.sp_match.specs.public.Known.{IsKnown}

-- what is known of each of the first events is so
abbrev pub AllKnown : Plan → List Event → List Known → Type 0
AllKnown q events known = (i : ℕ) (e : Event) (k : Known) → i < length events → i < length known → IsKnown q (slice_index_or events i e) (slice_index_or known i k)
