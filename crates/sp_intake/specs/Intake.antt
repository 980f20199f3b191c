-- What a reading of the input takes from it, and what it answers.
use Rattle.std.specs.Prelude.{◌≡◌, ◌<◌, ◌≤◌, ◌+◌, ℕ, false, List, ◌++◌, length, map, None, Result, Ok, Err, IfOk, string_bytes}
use Rattle.std.specs.declared.alloc.AllocError.{AllocError}
use Rattle.sp_base.specs.Limits.{piece_limit, event_limit}
use Rattle.sp_io.specs.Outside.{SourceState, Gave, Rose}
use Rattle.sp_plan.specs.Events.{AllFit, NeverGoesBack}
use Rattle.sp_plan.specs.declared.plan.Plan.{Plan}
use Rattle.sp_intake.specs.Loose.{Lateness, kept, loose}
use Rattle.sp_intake.specs.Reading.{Way, read, stop_of}
use Rattle.sp_intake.specs.declared.input.InputEvents.{InputEvents}
use Rattle.sp_intake.specs.declared.input.LooseEvents.{LooseEvents}
use Rattle.sp_intake.specs.declared.input.NamedEvents.{NamedEvents}
use Rattle.sp_ports.specs.declared.stop.Stop.TheVariants.{Open}

-- Reading ends with the piece in which it stops: what was taken before the last piece had not stopped it.
pub record StopsInPiece (way : Way) (taken : List ℕ) : Type 0 where
  pub front : List ℕ
  pub piece : List ℕ
  pub are : taken ≡ front ++ piece
  pub short : length piece ≤ piece_limit
  pub goes_on : (way front false).stopped ≡ None

-- the same of a reading in which times may not go back
abbrev pub TakesNoFurther : Plan → List ℕ → Type 0
TakesNoFurther q = StopsInPiece (read q)

-- A reading of the input: the bytes that it took and, where memory did not run out, the events that they give and why it stopped.
pub record ReadsInput (q : Plan) (old new : SourceState) (result : Result InputEvents AllocError) : Type 0 where
  pub taken : List ℕ
  pub gave : Gave old.left taken new.left
  pub no_further : TakesNoFurther q taken
  pub events : IfOk result (λ given. given.events.items ≡ (read q taken new.ended).events)
  pub stop : IfOk result (λ given. given.stop ≡ stop_of (read q taken new.ended) new.ended)
  -- few events that fit the plan and never go back in time
  pub few : IfOk result (λ given. length given.events.items ≤ event_limit)
  pub fit : IfOk result (λ given. AllFit q given.events.items)
  pub ordered : IfOk result (λ given. NeverGoesBack given.events.items)
  -- the source failed exactly where the reading stops open
  pub fault : IfOk result (λ given. given.stop ≡ Open → Rose old.faults new.faults)
  pub told : IfOk result (λ given. old.faults < new.faults → given.stop ≡ Open)

-- what was answered, but for the texts
abbrev pub unnamed : Result NamedEvents AllocError → Result InputEvents AllocError
unnamed (Ok given) = Ok (record { events = given.events; stop = given.stop })
unnamed (Err e) = Err e

-- A reading of the input that tells its texts by their numbers too, where memory did not run out.
pub record ReadsNamed (q : Plan) (old new : SourceState) (result : Result NamedEvents AllocError) : Type 0 where
  pub reads : ReadsInput q old new (unnamed result)
  pub texts : IfOk result (λ given. map string_bytes given.texts.items ≡ (read q reads.taken new.ended).so_far.texts)

-- A reading of an input whose events may come out of order: the bytes that it took and, where memory did not run out, the events that were kept, as they came, how many were passed over, and why it stopped.
pub record ReadsLoose (q : Plan) (l : Lateness) (old new : SourceState) (result : Result LooseEvents AllocError) : Type 0 where
  pub taken : List ℕ
  pub gave : Gave old.left taken new.left
  pub no_further : StopsInPiece (kept q l) taken
  pub events : IfOk result (λ given. given.events.items ≡ (loose q l taken new.ended).reading.events)
  pub late : IfOk result (λ given. given.late ≡ (loose q l taken new.ended).late)
  pub stop : IfOk result (λ given. given.stop ≡ stop_of (loose q l taken new.ended).reading new.ended)
  -- few events that fit the plan
  pub few : IfOk result (λ given. length given.events.items + given.late ≤ event_limit)
  pub fit : IfOk result (λ given. AllFit q given.events.items)
  -- the source failed exactly where the reading stops open
  pub fault : IfOk result (λ given. given.stop ≡ Open → Rose old.faults new.faults)
  pub told : IfOk result (λ given. old.faults < new.faults → given.stop ≡ Open)
