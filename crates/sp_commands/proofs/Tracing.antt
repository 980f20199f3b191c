-- A trace as what is promised of it: its lines step by step, and its texts.
use Rattle.std.proofs.Common.{◌≡◌, inl, inr, ℕ, ◌+◌, ◌<◌, Bool, true, false, List, [], ◌∷◌, ◌++◌, length, get_or, take, drop, Ok, refl, sym, ◌∙◌, ap, subst, append_assoc, append-nil, take-append-drop}
use Rattle.std.specs.Prelude.{Result, IsErr, if◌then◌else◌}
use Rattle.std.specs.declared.alloc.AllocError.{AllocError}
use Rattle.std.specs.List.{All, fold}
use Rattle.std.proofs.lemmas.Grind.{flat_map-append}
use Rattle.std.proofs.lemmas.List.{take_more, drop_more}
use Rattle.std.proofs.lemmas.List.Elements.{All-nil, All-cons}
use Rattle.std.proofs.lemmas.List.Sums.{fold-append}
use Rattle.sp_base.specs.Limits.{schedule_limit}
use Rattle.sp_io.specs.Outside.{ToldFiles, SinkState, Grew}
use Rattle.sp_plan.specs.declared.event.Event.{Event}
use Rattle.sp_plan.specs.declared.plan.Plan.{Plan}
use Rattle.sp_ports.specs.Stopping.{is_end}
use Rattle.sp_ports.specs.declared.stop.Stop.{Stop}
use Rattle.sp_sched.specs.Schedules.{CanStand, AreSteps, none, blank, step}
use Rattle.sp_sched.specs.declared.step.TraceStep.{TraceStep}
use Rattle.sp_trace.specs.Traced.{Tracing, after, lines_for, lines_from, joined, traced}
use Rattle.sp_load.specs.Places.{Place}
use Rattle.sp_load.specs.Queries.{RefusesText}
use Rattle.sp_load.specs.declared.refusal.Refusal.{Refusal}
use Rattle.sp_load.specs.declared.refusal.Refusal.TheVariants as r
use Rattle.sp_answer.specs.Outcome.{Outcome, nothing_for}
use Rattle.sp_answer.specs.Written.{WritesText}
use Rattle.sp_answer.specs.declared.written.Written.{Written}
use Rattle.sp_answer.specs.declared.written.Written.TheVariants.{All as Whole, Failed}
use Rattle.sp_answer.specs.declared.status.Status.{Status}
use Rattle.sp_answer.proofs.Writing.{cut_within, piece_grew, piece_quiet, piece_short}
use Rattle.sp_commands.specs.Ends.{status_of_refusal}
use Rattle.sp_commands.specs.Trace.{TraceOutcome, long_query, long_schedule, of_texts, TextsOutcome, faulty, trace_text, RefusesTrace}
use Rattle.sp_commands.proofs.TwoTexts.{FilesOutcome}
use Rattle.sp_commands.proofs.TwoTexts as files

-- ---- lines

lines_append : (g : Tracing) (xs ys : List TraceStep) → lines_from g (xs ++ ys) ≡ lines_from g xs ++ lines_from (fold after g xs) ys
lines_append g [] ys = refl
lines_append g (x ∷ xs) ys = ap (λ (ls : List (List ℕ)). lines_for g x ++ ls) (lines_append (after g x) xs ys) ∙ sym (append_assoc (lines_for g x) (lines_from (after g x) xs) (lines_from (fold after (after g x) xs) ys))

-- the text of steps from a state on
abbrev pub text_from : Tracing → List TraceStep → List ℕ
text_from g xs = joined (lines_from g xs)

text_append : (g : Tracing) (xs ys : List TraceStep) → text_from g (xs ++ ys) ≡ text_from g xs ++ text_from (fold after g xs) ys
text_append g xs ys = ap joined (lines_append g xs ys) ∙ flat_map-append (λ (one : List ℕ). one) (lines_from g xs) (lines_from (fold after g xs) ys)

-- one step more
module _ (g : Tracing) (xs : List TraceStep) (i : ℕ) (x : TraceStep) (inside : i < length xs) (is : x ≡ get_or xs i x) where
  -- how far the run has come
  abbrev here : Tracing
  here = fold after g (take i xs)

  own_text : text_from here (x ∷ []) ≡ joined (lines_for here x)
  own_text = flat_map-append (λ (one : List ℕ). one) (lines_for here x) [] ∙ append-nil (joined (lines_for here x))

  pub text_more : text_from g (take (i + 1) xs) ≡ text_from g (take i xs) ++ joined (lines_for here x)
  text_more =
      ap (text_from g) (take_more xs i x inside ∙ ap (λ (y : TraceStep). take i xs ++ y ∷ []) (sym is))
      ∙ text_append g (take i xs) (x ∷ []) ∙ ap (λ (l : List ℕ). text_from g (take i xs) ++ l) own_text

  pub text_rest : text_from g xs ≡ text_from g (take i xs) ++ (joined (lines_for here x) ++ text_from (after here x) (drop (i + 1) xs))
  text_rest =
      ap (text_from g) (sym (take-append-drop i xs)) ∙ text_append g (take i xs) (drop i xs)
      ∙ ap (λ (l : List ℕ). text_from g (take i xs) ++ l)
      (ap (text_from here) (drop_more xs i x inside ∙ ap (λ (y : TraceStep). y ∷ drop (i + 1) xs) (sym is))
      ∙ flat_map-append (λ (one : List ℕ). one) (lines_for here x) (lines_from (after here x) (drop (i + 1) xs)))

  pub after_more : fold after g (take (i + 1) xs) ≡ after here x
  after_more = ap (fold after g) (take_more xs i x inside ∙ ap (λ (y : TraceStep). take i xs ++ y ∷ []) (sym is)) ∙ fold-append after g (take i xs) (x ∷ [])

-- one step was printed behind what had been printed
module _ (g : Tracing) (xs : List TraceStep) (i : ℕ) (x : TraceStep) (inside : i < length xs) (is : x ≡ get_or xs i x) (old mid new : SinkState)
    (grew : Grew old.held (text_from g (take i xs)) mid.held) (quiet : mid.faults ≡ old.faults) where
  abbrev own : List ℕ
  own = joined (lines_for (fold after g (take i xs)) x)

  pub one_grew : WritesText own mid new (Ok Whole) → Grew old.held (text_from g (take (i + 1) xs)) new.held
  one_grew writes = subst (λ (l : List ℕ). Grew old.held l new.held) (sym (text_more g xs i x inside is)) (piece_grew _ (text_from g (take i xs)) own _ (text_rest g xs i x inside is) old mid new grew quiet writes)

  pub one_quiet : WritesText own mid new (Ok Whole) → new.faults ≡ old.faults
  one_quiet writes = piece_quiet _ (text_from g (take i xs)) own _ (text_rest g xs i x inside is) old mid new grew quiet writes

  pub one_cut : WritesText own mid new (Ok Failed) → WritesText (text_from g xs) old new (Ok Failed)
  one_cut writes = cut_within _ (text_from g (take i xs)) own _ (text_rest g xs i x inside is) old mid new grew quiet writes

  pub one_short : (own_end end : Result Written AllocError) → IsErr own_end → IsErr end → WritesText own mid new own_end → WritesText (text_from g xs) old new end
  one_short = piece_short _ (text_from g (take i xs)) own _ (text_rest g xs i x inside is) old mid new grew quiet

-- the steps of a schedule can stand in one
pub steps_stand : (lines : List (List ℕ)) (steps : List TraceStep) → AreSteps lines steps → All CanStand steps
steps_stand _ _ none = All-nil CanStand
steps_stand _ _ (blank rest steps are) = steps_stand rest steps are
steps_stand _ _ (step x rest steps can are) = stand x steps can (steps_stand rest steps are)
  where
    stand : (x : TraceStep) (xs : List TraceStep) → CanStand x → All CanStand xs → All CanStand (x ∷ xs)
    stand x xs can all = All-cons CanStand x xs can all

-- ---- texts

-- the outcome of a trace is one of two texts
pub trace_of_files : (place : Place) (name : List ℕ) (bound : ℕ) (held : ToldFiles) (b : List ℕ) (e : Bool) (o : Outcome)
    → FilesOutcome schedule_limit (λ query schedule. TextsOutcome query schedule bound) place name held b e o → TraceOutcome place name bound held b e o
trace_of_files place name bound held b e _ (files.long_query long) = long_query long
trace_of_files place name bound held b e _ (files.long_file text has longer) = long_schedule text has longer
trace_of_files place name bound held b e _ (files.of_texts text content o has holds is) = of_texts text content o has holds is

pub files_of_trace : (place : Place) (name : List ℕ) (bound : ℕ) (held : ToldFiles) (b : List ℕ) (e : Bool) (o : Outcome)
    → TraceOutcome place name bound held b e o → FilesOutcome schedule_limit (λ query schedule. TextsOutcome query schedule bound) place name held b e o
files_of_trace place name bound held b e _ (long_query long) = files.long_query long
files_of_trace place name bound held b e _ (long_schedule text has longer) = files.long_file text has longer
files_of_trace place name bound held b e _ (of_texts text content o has holds is) = files.of_texts text content o has holds is

-- a fault of the query's text refuses the texts
pub query_faulty : (text content : List ℕ) (refusal : Refusal) (s : Status) → s ≡ status_of_refusal refusal → RefusesText text refusal → RefusesTrace text content s
query_faulty text content r.Memory s is refuses = inl is
query_faulty text content (r.Query code at) s is refuses =
    inr (λ bound b e. subst (λ (u : Status). TextsOutcome text content bound b e (nothing_for u)) (sym is) (faulty code at refuses))
query_faulty text content r.Read s is refuses = absurd refuses
query_faulty text content (r.Limited limit) s is refuses = absurd refuses

-- ---- the stop

-- nothing is printed where the input was not read to its end
pub open_text : (bound : ℕ) (steps : List TraceStep) (q : Plan) (events : List Event) (stop : Stop) → is_end stop ≡ false → trace_text bound steps q events stop ≡ []
open_text bound steps q events stop open_ = ap (λ (b : Bool). if b then traced q bound events steps else []) open_

-- and else the whole run
pub ended_writes : (bound : ℕ) (steps : List TraceStep) (q : Plan) (events : List Event) (stop : Stop) (old new : SinkState) (result : Result Written AllocError) → is_end stop ≡ true
    → WritesText (traced q bound events steps) old new result → WritesText (trace_text bound steps q events stop) old new result
ended_writes bound steps q events stop old new result ended writes =
    subst (λ (l : List ℕ). WritesText l old new result) (sym (ap (λ (b : Bool). if b then traced q bound events steps else []) ended)) writes
