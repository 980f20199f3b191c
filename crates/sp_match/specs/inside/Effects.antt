-- What the handling of an event does to the runs in plain values, and what is told of it.
use Rattle.std.specs.Prelude.{◌≡◌, ℕ, Bool, true, false, not, ◌&&◌, ◌||◌, List, [], ◌∷◌, ◌++◌, map, filter, Option, Some, None, slice_get, slice_set, slice_index_or, if◌then◌else◌}
use Rattle.std.specs.List.{flat_map}
use Rattle.sp_base.specs.Numbers.{is_among}
use Rattle.sp_plan.specs.declared.plan.Plan.{Plan}
use Rattle.sp_plan.specs.Windows.{Numbered}
use Rattle.sp_plan.specs.Runs.{Started, bindings, holds_one, is_complete, is_consumed, used}
use Rattle.sp_plan.specs.Moves.{Told, GrownTold, CompletedTold, AbandonedTold}
use Rattle.sp_match.specs.declared.turns.Reception.{Reception}
use Rattle.sp_match.specs.declared.turns.Reception.TheVariants.{Passed, Taken, Used}
use Rattle.sp_match.specs.declared.run.Fate.TheVariants.{Completes, Leaves}
use Rattle.sp_match.specs.declared.moves.Move.{Move}
use Rattle.sp_match.specs.public.Seen.{seen}
use Rattle.sp_match.specs.inside.Taking.{guard_range, last_again, next_element}
use Rattle.sp_match.specs.inside.Kept.{Kept, empty, grown, pairs, started, stays}

-- Of the moves told, these come behind the old ones.
abbrev pub Adds : List Move → List Move → List Told → Type 0
Adds old new more = map seen new ≡ map seen old ++ more

-- whether a run is open and holds one of these numbers
abbrev pub loses : List ℕ → Kept → Bool
loses ns k = stays k.fate && holds_one ns (pairs k)

-- a run after these numbers were used: it leaves where it is open and holds one of them
abbrev pub run_after_use : List ℕ → Kept → Kept
run_after_use ns k = record k { fate = if loses ns k then Leaves else k.fate }

-- the move told of a run that is abandoned
abbrev pub leaving_told : Kept → Told
leaving_told k = AbandonedTold k.number

-- what is told of a run when these numbers are used
abbrev pub use_told : List ℕ → Kept → List Told
use_told ns k = if loses ns k then leaving_told k ∷ [] else []

-- a run of which it is known what counts for it next
abbrev pub looking : Plan → Kept → Kept
looking q k = record k { ahead = Some (record { element = next_element q (pairs k); again = last_again q (pairs k); guards = guard_range q (pairs k) }) }

-- a run with the event bound to the name, before it is looked whether it is complete
abbrev pub run_with_event : Plan → ℕ → Numbered → Kept → Kept
run_with_event q name x k = looking q (grown name (is_consumed (slice_get q.names name)) x.0 x.1 k)

-- whether a run is complete that binds the event to the name
abbrev pub completes : Plan → ℕ → Numbered → Kept → Bool
completes q name x k = is_complete q (pairs (run_with_event q name x k))

-- a run completes where no element is left
abbrev pub run_if_complete : Plan → Kept → Kept
run_if_complete q k = record k { fate = if is_complete q (pairs k) then Completes else k.fate }

-- what is told of a run that completes
abbrev pub completion_told : Plan → Kept → Told
completion_told q k = CompletedTold k.number (bindings q (pairs k)) (used q (pairs k))

-- what is told of a run where it is complete
abbrev pub told_if_complete : Plan → Kept → List Told
told_if_complete q k = if is_complete q (pairs k) then completion_told q k ∷ [] else []

-- what becomes of a run that binds the event to the name
abbrev pub run_after_binding : Plan → ℕ → Numbered → Kept → Kept
run_after_binding q name x k = run_if_complete q (run_with_event q name x k)

-- what is told of a run that binds the event to the name
abbrev pub binding_told : Plan → ℕ → Numbered → Kept → List Told
binding_told q name x k = GrownTold k.number x.0 ∷ told_if_complete q (run_with_event q name x k)

-- the numbers that a run uses which binds the event to the name: those of its consumed names where it is complete, else none
abbrev pub used_by_binding : Plan → ℕ → Numbered → Kept → List ℕ
used_by_binding q name x k = if completes q name x k then (run_with_event q name x k).used else []

-- the run at a place
abbrev pub run_at : List Kept → ℕ → Kept
run_at ks at = slice_index_or ks at (empty 0)

-- all runs after the one at a place bound the event to the name
abbrev pub runs_after_binding : Plan → ℕ → Numbered → ℕ → List Kept → List Kept
runs_after_binding q name x at ks = map (run_after_use (used_by_binding q name x (run_at ks at))) (slice_set ks at (run_after_binding q name x (run_at ks at)))

-- what is told of all runs then
abbrev pub runs_binding_told : Plan → ℕ → Numbered → ℕ → List Kept → List Told
runs_binding_told q name x at ks =
    binding_told q name x (run_at ks at) ++ flat_map (use_told (used_by_binding q name x (run_at ks at))) (slice_set ks at (run_after_binding q name x (run_at ks at)))

-- all runs after the one at a place was abandoned
abbrev pub runs_after_leaving : ℕ → List Kept → List Kept
runs_after_leaving at ks = slice_set ks at (record (run_at ks at) { fate = Leaves })

-- all runs after the open one at a place was offered the event, by the name under which it takes it: without one it leaves where the event says so
abbrev pub runs_after_offer : Plan → Bool → ℕ → Numbered → List Kept → Option ℕ → List Kept
runs_after_offer q leaves at x ks (Some name) = runs_after_binding q name x at ks
runs_after_offer q leaves at x ks None = if leaves then runs_after_leaving at ks else ks

-- what is told of all runs then
abbrev pub offer_told : Plan → Bool → ℕ → Numbered → List Kept → Option ℕ → List Told
offer_told q leaves at x ks (Some name) = runs_binding_told q name x at ks
offer_told q leaves at x ks None = if leaves then leaving_told (run_at ks at) ∷ [] else []

-- whether an event was used
abbrev pub is_used : Reception → Bool
is_used Passed = false
is_used Taken = false
is_used Used = true

-- whether an event was taken
abbrev pub is_taken : Reception → Bool
is_taken Passed = false
is_taken Taken = true
is_taken Used = true

-- what the event has met with when the run was offered it
abbrev pub reception_after_offer : Plan → Numbered → Kept → Reception → Option ℕ → Reception
reception_after_offer q x k r (Some name) = if is_among (used_by_binding q name x k) x.0 then Used else Taken
reception_after_offer q x k r None = r

-- whether a run is offered no event
abbrev pub is_skipped : Reception → Kept → Bool
is_skipped r k = is_used r || not (stays k.fate)

-- the open runs, as the definitions have them
abbrev pub open_runs : List Kept → List Started
open_runs ks = map started (filter (λ k. stays k.fate) ks)
