-- What a run comes to: the query that stands there, window by window over the input.
use Rattle.std.specs.Prelude.{◌≡◌, ℕ, Bool, true, false, List}
use Rattle.sp_base.specs.Limits.{query_limit}
use Rattle.sp_io.specs.Outside.{ToldFiles}
use Rattle.sp_plan.specs.Compiled.{IsCompiled}
use Rattle.sp_plan.specs.declared.event.Event.{Event}
use Rattle.sp_plan.specs.declared.plan.Plan.{Plan}
use Rattle.sp_plan.specs.Sequential.{whole}
use Rattle.sp_plan.specs.Lines.{text}
use Rattle.sp_listing.specs.Listing.{listing_text}
use Rattle.sp_cert.specs.Proofs.{proofs}
use Rattle.sp_intake.specs.Loose.{Lateness}
use Rattle.sp_intake.specs.LooseLaws.{punctual}
use Rattle.sp_ports.specs.Stopping.{is_end}
use Rattle.sp_ports.specs.declared.stop.Stop.{Stop}
use Rattle.sp_load.specs.Places.{Place, IsLonger}
use Rattle.sp_load.specs.Queries.{IsPlanAt, IsFaultyAt}
use Rattle.sp_answer.specs.Outcome.{Outcome, nothing_for}
use Rattle.sp_answer.specs.declared.status.Status.TheVariants.{Query, Limited}
use Rattle.sp_commands.specs.Ends.{came, came_within, reading_outcome}

-- the text of the windows that these events have closed
abbrev pub windows_text : Plan → List Event → Stop → List ℕ
windows_text q events stop = text q (whole q events (is_end stop)).matches

-- the listing of the windows that these events have closed
abbrev pub proofs_text : Plan → List Event → Stop → List ℕ
proofs_text q events stop = listing_text q (proofs q events (is_end stop))

-- what a run tells of its events: the lines of their matches, or the listing where proofs are asked for
abbrev pub text_by : Bool → Plan → List Event → Stop → List ℕ
text_by false = windows_text
text_by true = proofs_text

-- what a run of a plan comes to over these bytes, whose events may be late by so much, where it tells this of events
abbrev pub told_outcome : (Plan → List Event → Stop → List ℕ) → Plan → Lateness → List ℕ → Bool → Outcome
told_outcome text_for q l bytes ended = reading_outcome (came_within q l) (text_for q) bytes ended

abbrev pub run_outcome : Plan → Lateness → List ℕ → Bool → Outcome
run_outcome = told_outcome windows_text

-- the outcome of a plan
abbrev pub IsPlanTold : (Plan → List Event → Stop → List ℕ) → Plan → Lateness → List ℕ → Bool → Outcome → Type 0
IsPlanTold text_for q l bytes ended o = o ≡ told_outcome text_for q l bytes ended

abbrev pub IsPlanRun : Plan → Lateness → List ℕ → Bool → Outcome → Type 0
IsPlanRun = IsPlanTold windows_text

-- The outcome of a run of the query that stands there, over what the files hold and the bytes taken from the input, where it tells this of events.
pub data ToldOutcome (text_for : Plan → List Event → Stop → List ℕ) (place : Place) (l : Lateness) (held : ToldFiles) (bytes : List ℕ) (ended : Bool) : Outcome → Type 0 where
  too_long : IsLonger held query_limit place → ToldOutcome text_for place l held bytes ended (nothing_for (Limited query_limit))
  faulty : (code at : ℕ) → IsFaultyAt held place code at → ToldOutcome text_for place l held bytes ended (nothing_for (Query code at))
  runs : (q : Plan) → IsPlanAt held place q → ToldOutcome text_for place l held bytes ended (told_outcome text_for q l bytes ended)

-- where it tells the lines of matches
abbrev pub RunOutcome : Place → Lateness → ToldFiles → List ℕ → Bool → Outcome → Type 0
RunOutcome = ToldOutcome windows_text

-- Without slack, and where a late event ends the reading, a run comes to what its bytes give where times may not go back.
abbrev pub PunctualRuns : Type 0
PunctualRuns =
    (proof : Bool) (q : Plan) (bytes : List ℕ) (ended : Bool) → IsCompiled q
    → told_outcome (text_by proof) q punctual bytes ended ≡ reading_outcome (came q) (text_by proof q) bytes ended
