-- A run of a plan, and of the query that stands at a place, as what is promised of it.
use Rattle.std.proofs.Common.{◌⊎◌, ◌≡◌, ◌≢◌, ◌<◌, inl, inr, ⊎_elim, ℕ, Bool, false, List, [], Ok, Err, refl, ap, arith, sym, subst, ◌∙◌}
use Rattle.std.specs.Prelude.{Result}
use Rattle.std.specs.List.{Contains}
use Rattle.std.specs.declared.alloc.AllocError.{AllocError}
use Rattle.sp_io.specs.Outside.{ToldFiles, Gave, Grew, Rose}
use Rattle.sp_plan.specs.declared.event.Event.{Event}
use Rattle.sp_plan.specs.declared.plan.Plan.{Plan}
use Rattle.sp_intake.specs.Intake.{TakesNoFurther}
use Rattle.sp_intake.specs.Loose.{Lateness}
use Rattle.sp_ports.specs.declared.stop.Stop.{Stop}
use Rattle.sp_ports.specs.declared.stop.Stop.TheVariants.{Open}
use Rattle.sp_load.specs.Places.{Place, file}
use Rattle.sp_load.specs.Loads.{IsUnread}
use Rattle.sp_load.specs.Queries.{IsPlanAt, RefusesPlace}
use Rattle.sp_load.specs.declared.refusal.Refusal.{Refusal}
use Rattle.sp_load.specs.declared.refusal.Refusal.TheVariants as r
use Rattle.sp_answer.specs.Outcome.{Outcome, Ending, ending, outcome, nothing_for, number_of}
use Rattle.sp_answer.specs.Ran.{Outside, ReadsNoFurther, Ran}
use Rattle.sp_answer.specs.Promise.{Filed, Answered, by_memory, by_file, by_refusal, by_run, SameCounts, Served}
use Rattle.sp_answer.specs.declared.status.Status.{Status}
use Rattle.sp_answer.specs.declared.status.Status.TheVariants.{Memory, Read, Write}
use Rattle.sp_answer.specs.Written.{WritesText}
use Rattle.sp_answer.specs.declared.written.Written.{Written}
use Rattle.sp_answer.specs.declared.written.Written.TheVariants.{All as WriteAll, Failed as WriteFailed}
use Rattle.sp_answer.proofs.Answering.{cut_short, ran_weaker}
use Rattle.sp_commands.specs.Commands.{files_at}
use Rattle.sp_commands.specs.Ends.{Came, CameFrom, came, written_status, status_of_refusal, reading_outcome}
use Rattle.sp_commands.specs.Given.{StopsInTime}
use Rattle.sp_commands.specs.Run.{IsPlanTold, ToldOutcome, too_long, faulty, runs}
use Rattle.sp_commands.specs.Texts.{OneRose}
use Rattle.sp_commands.proofs.Came.{IsTold, came_open}

-- ---- a reading

-- input that had not stopped the reading before the last piece is that of one that may go on
pub strict_in_time : (q : Plan) (taken : List ℕ) → TakesNoFurther q taken → StopsInTime (came q) taken
strict_in_time q taken no_further = record {
  front = no_further.front;
  piece = no_further.piece;
  are = no_further.are;
  short = no_further.short;
  goes_on = came_open q no_further.front no_further.goes_on;
}

-- nothing was taken yet
pub none_in_time : (way : CameFrom) → (way [] false).status ≡ Read → StopsInTime way []
none_in_time way goes_on = record { front = []; piece = []; are = refl; short = omega arith; goes_on = goes_on }

-- What came of the bytes that were taken has this text, and how the writing of it ended.
module _ (P : List ℕ → Bool → Outcome → Type 0) (old new : Outside) (taken : List ℕ) (gave : Gave old.input.left taken new.input.left) (no_further : ReadsNoFurther P taken)
    (c : Came) (text : List ℕ) (is : P taken new.input.ended (outcome c.status text)) (told : IsTold new.input.ended c) where
  -- the whole text was written
  pub all_written : (s : Status) → (c.stop ≡ Open → Rose old.input.faults new.input.faults) → (old.input.faults < new.input.faults → c.stop ≡ Open)
      → s ≡ c.status → Grew old.out.held text new.out.held → new.out.faults ≡ old.out.faults → Ran P old new (ending s)
  all_written s fault rose_told status grew no_fault = record {
    taken = taken;
    outcome = outcome c.status text;
    gave = gave;
    is = is;
    no_further = no_further;
    exact = λ _ _. (ap ending status, grew);
    cut_off = λ which. absurd (told.not_cut (⊎_elim (λ e. inl (sym status ∙ e)) (λ e. inr (sym status ∙ e)) which));
    read_whole = λ e. (told.only_end (ap number_of (sym status) ∙ e)).1;
    read_fault = λ e. fault (told.only_open (sym status ∙ e));
    write_fault = λ e. absurd (told.not_cut (inr (sym status ∙ e)));
    read_told = λ rose. inl (status ∙ told.is_read (rose_told rose));
    write_told = λ rose. absurd (omega (arith, rose, no_fault));
  }

  -- the output failed
  pub failed : WritesText text old.out new.out (Ok WriteFailed) → Ran P old new (ending Write)
  failed writes =
      let fault = writes.failed refl in
      record {
        taken = taken;
        outcome = outcome c.status text;
        gave = gave;
        is = is;
        no_further = no_further;
        exact = λ _ other. absurd (other refl);
        cut_off = λ _. (refl, writes.within);
        read_whole = λ e. cc;
        read_fault = λ e. cc;
        write_fault = λ _. fault;
        read_told = λ _. inr (inl refl);
        write_told = λ _. inl refl;
      }

  -- memory ran out on the way
  pub short : (result : Result Written AllocError) → WritesText text old.out new.out result → Ran P old new (ending Memory)
  short result writes = record {
    taken = taken;
    outcome = outcome c.status text;
    gave = gave;
    is = is;
    no_further = no_further;
    exact = λ other _. absurd (other refl);
    cut_off = λ _. (refl, writes.within);
    read_whole = λ e. cc;
    read_fault = λ e. cc;
    write_fault = λ e. cc;
    read_told = λ _. inr (inr refl);
    write_told = λ _. inr refl;
  }

  -- the status of the writing's end
  by_result : (fault : c.stop ≡ Open → Rose old.input.faults new.input.faults) (rose_told : old.input.faults < new.input.faults → c.stop ≡ Open)
      (result : Result Written AllocError) → WritesText text old.out new.out result → Ran P old new (ending (written_status c.status result))
  by_result fault rose_told (Ok WriteAll) writes = all_written c.status fault rose_told refl (writes.all refl) (writes.not_failed (λ e. cc))
  by_result fault rose_told (Ok WriteFailed) writes = failed writes
  by_result fault rose_told (Err e) writes = short (Err e) writes

  pub written : (fault : c.stop ≡ Open → Rose old.input.faults new.input.faults) (rose_told : old.input.faults < new.input.faults → c.stop ≡ Open)
      (result : Result Written AllocError) → WritesText text old.out new.out result → (s : Status) → s ≡ written_status c.status result → Ran P old new (ending s)
  written fault rose_told result writes s is = subst (λ (t : Status). Ran P old new (ending t)) (sym is) (by_result fault rose_told result writes)

module _ (way : CameFrom) (T : List Event → Stop → List ℕ) where
  -- the outcome of bytes whose text is this
  abbrev pub IsReading : List ℕ → Bool → Outcome → Type 0
  IsReading bytes ended o = o ≡ reading_outcome way T bytes ended

  -- what came of the bytes has the outcome of a reading
  pub reading_is : (taken : List ℕ) (ended : Bool) (c : Came) → c ≡ way taken ended → IsReading taken ended (outcome c.status (T c.events c.stop))
  reading_is taken ended c is = ap (λ (x : Came). outcome x.status (T x.events x.stop)) is

  pub no_further_reading : (taken : List ℕ) → StopsInTime way taken → ReadsNoFurther IsReading taken
  no_further_reading taken in_time = record {
    front = in_time.front;
    piece = in_time.piece;
    are = in_time.are;
    short = in_time.short;
    outcome = reading_outcome way T in_time.front false;
    goes_on = refl;
    is_open = in_time.goes_on;
  }

  module _ (old new : Outside) (taken : List ℕ) (gave : Gave old.input.left taken new.input.left) (in_time : StopsInTime way taken) where
    -- memory ran out before anything was written
    pub unread : new.out ≡ old.out → Ran IsReading old new (ending Memory)
    unread same = cut_short IsReading old new taken (reading_outcome way T taken new.input.ended) gave refl (no_further_reading taken in_time) same

-- ---- files

module _ (names : List (List ℕ)) (P : ToldFiles → List ℕ → Bool → Outcome → Type 0) (before after : Filed) (old : Outside) (same_files : after.held ≡ before.held) where
  -- no load has failed
  pub quiet_served : (new : Outside) (end : Ending) → SameCounts before after → Answered names (P before.held) before after old new end → Served names P before after old new end
  quiet_served new end same answered = record {
    answered = answered;
    file_told = λ name own rose. absurd (omega (arith, rose, same name));
    files = same_files;
    counts = inl same;
  }

  -- a load has failed
  pub fault_served : (s : Status) → s ≡ Read → OneRose names before.faults after.faults → Served names P before after old old (ending s)
  fault_served s is rose = record {
    answered = by_file (record { name = rose.0; own = rose.1; fault = ap ending is; same = refl; rose = rose.2 });
    file_told = λ name mine more. (inl is, refl);
    files = same_files;
    counts = inr (rose.0, rose.1, rose.2);
  }

-- a refusal is for a fault of a file, or for another reason
pub by_read : (refusal : Refusal) → (refusal ≡ r.Read) ⊎ (refusal ≢ r.Read)
by_read r.Memory = inr (λ e. cc)
by_read r.Read = inl refl
by_read (r.Limited limit) = inr (λ e. cc)
by_read (r.Query code at) = inr (λ e. cc)

-- ---- a place

-- the file of a place is one of those that it gives
pub own_name : (place : Place) (name : List ℕ) → place ≡ file name → Contains (files_at place) name
own_name place name is = subst (λ (p : Place). Contains (files_at p) name) (sym is) (0, omega arith, refl)

module _ (text_for : Plan → List Event → Stop → List ℕ) (place : Place) (l : Lateness) (before after : Filed) (old : Outside) (same_files : after.held ≡ before.held) where
  -- A plan of the query that stands there is run.
  pub ran_served : (new : Outside) (q : Plan) (s : Status) → IsPlanAt before.held place q → SameCounts before after → Ran (IsPlanTold text_for q l) old new (ending s) → Served (files_at place) (ToldOutcome text_for place l) before after old new (ending s)
  ran_served new q s plan same ran =
      quiet_served (files_at place) (ToldOutcome text_for place l) before after old same_files new (ending s) same
      (by_run (ran_weaker (IsPlanTold text_for q l) (ToldOutcome text_for place l before.held) old new (ending s) (λ b e o is. subst (ToldOutcome text_for place l before.held b e) (sym is) (runs q plan)) ran))

  -- what is refused without a fault of a file
  quiet_answered : (refusal : Refusal) → refusal ≢ r.Read → RefusesPlace before.held place refusal → Answered (files_at place) (ToldOutcome text_for place l before.held) before after old old (ending (status_of_refusal refusal))
  quiet_answered r.Memory other refuses = by_memory refl refl
  quiet_answered r.Read other refuses = absurd (other refl)
  quiet_answered (r.Limited limit) other refuses = by_refusal (record {
    is = λ b e. subst (λ (n : ℕ). ToldOutcome text_for place l before.held b e (nothing_for (status_of_refusal (r.Limited n)))) (sym refuses.0) (too_long refuses.1);
    line = refl;
    same = refl;
  })
  quiet_answered (r.Query code at) other refuses = by_refusal (record { is = λ b e. faulty code at refuses; line = refl; same = refl })

  -- The query that stands there is refused before anything is read or written.
  pub refused_served : (refusal : Refusal) (s : Status) → s ≡ status_of_refusal refusal → RefusesPlace before.held place refusal
      → (refusal ≡ r.Read → IsUnread place before.faults after.faults) → (refusal ≢ r.Read → SameCounts before after) → Served (files_at place) (ToldOutcome text_for place l) before after old old (ending s)
  refused_served refusal s is refuses unread same = by (by_read refusal)
    where
      by : (refusal ≡ r.Read) ⊎ (refusal ≢ r.Read) → Served (files_at place) (ToldOutcome text_for place l) before after old old (ending s)
      by (inl read) =
          let fault = unread read in
          fault_served (files_at place) (ToldOutcome text_for place l) before after old same_files s (is ∙ ap status_of_refusal read) (fault.name, own_name place fault.name fault.is_file, fault.rose)
      by (inr other) =
          quiet_served (files_at place) (ToldOutcome text_for place l) before after old same_files old (ending s) (same other)
          (subst (λ (t : Status). Answered (files_at place) (ToldOutcome text_for place l before.held) before after old old (ending t)) (sym is) (quiet_answered refusal other refuses))
