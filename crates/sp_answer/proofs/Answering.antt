-- Answers before the input is read, answers cut short by want of memory, and an outcome seen as another.
use Rattle.std.proofs.Common.{◌⊎◌, ◌≡◌, ◌≢◌, inl, inr, ℕ, Bool, false, List, refl, sym, subst}
use Rattle.sp_io.specs.Outside.{ToldFiles, Gave, Grew, GrewWithin}
use Rattle.sp_answer.specs.declared.status.Status.{Status}
use Rattle.sp_answer.specs.declared.status.Status.TheVariants.{Done, DoneLate, Memory, Usage, Query, Second, Returns, Input, Read, Write, Limited, Schedule, ListingLine, ListingWindow}
use Rattle.sp_answer.specs.Outcome.{Outcome, Ending, ending, ending_of, line_of}
use Rattle.sp_answer.specs.Ran.{Outside, ReadsNoFurther, Ran, Made}
use Rattle.sp_answer.specs.Promise.{Filed, FileTold, Answered, by_memory, by_file, by_refusal, by_run, by_itself, Served}
use Rattle.sp_io.proofs.Grew.{within_none, grew_whole}

-- ---- runs

-- memory ran out before anything was written
pub cut_short : (P : List ℕ → Bool → Outcome → Type 0) (old new : Outside) (taken : List ℕ) (o : Outcome) → Gave old.input.left taken new.input.left → P taken new.input.ended o → ReadsNoFurther P taken → new.out ≡ old.out → Ran P old new (ending Memory)
cut_short P old new taken o gave is no_further same = record {
  taken = taken;
  outcome = o;
  gave = gave;
  is = is;
  no_further = no_further;
  exact = λ other _. absurd (other refl);
  cut_off = λ _. (refl, rw same (within_none old.out.held o.text));
  read_whole = λ e. cc;
  read_fault = λ e. cc;
  write_fault = λ e. cc;
  read_told = λ _. inr (inr refl);
  write_told = λ _. inr refl;
}

-- an outcome of one kind is one of another
no_further_weaker : (P Q : List ℕ → Bool → Outcome → Type 0) (taken : List ℕ) → ((b : List ℕ) (e : Bool) (o : Outcome) → P b e o → Q b e o) → ReadsNoFurther P taken → ReadsNoFurther Q taken
no_further_weaker P Q taken weaker no_further = record {
  front = no_further.front;
  piece = no_further.piece;
  are = no_further.are;
  short = no_further.short;
  outcome = no_further.outcome;
  goes_on = weaker no_further.front false no_further.outcome no_further.goes_on;
  is_open = no_further.is_open;
}

pub ran_weaker : (P Q : List ℕ → Bool → Outcome → Type 0) (old new : Outside) (end : Ending) → ((b : List ℕ) (e : Bool) (o : Outcome) → P b e o → Q b e o) → Ran P old new end → Ran Q old new end
ran_weaker P Q old new end weaker ran = record {
  taken = ran.taken;
  outcome = ran.outcome;
  gave = ran.gave;
  is = weaker ran.taken new.input.ended ran.outcome ran.is;
  no_further = no_further_weaker P Q ran.taken weaker ran.no_further;
  exact = ran.exact;
  cut_off = ran.cut_off;
  read_whole = ran.read_whole;
  read_fault = ran.read_fault;
  write_fault = ran.write_fault;
  read_told = ran.read_told;
  write_told = ran.write_told;
}

-- what was written begins the text, whatever the status
module _ (old new : Outside) (text : List ℕ) (told : Type 0) (cut : Type 0) where
  begins : (s : Status) → (s ≢ Memory → s ≢ Write → told × Grew old.out.held text new.out.held) → ((s ≡ Memory) ⊎ (s ≡ Write) → cut × GrewWithin old.out.held text new.out.held)
      → GrewWithin old.out.held text new.out.held
  begins Memory exact cut_off = (cut_off (inl refl)).1
  begins Write exact cut_off = (cut_off (inr refl)).1
  begins Done exact cut_off = grew_whole _ _ _ (exact (λ e. cc) (λ e. cc)).1
  begins (DoneLate rows) exact cut_off = grew_whole _ _ _ (exact (λ e. cc) (λ e. cc)).1
  begins Usage exact cut_off = grew_whole _ _ _ (exact (λ e. cc) (λ e. cc)).1
  begins (Query code place) exact cut_off = grew_whole _ _ _ (exact (λ e. cc) (λ e. cc)).1
  begins (Second code place) exact cut_off = grew_whole _ _ _ (exact (λ e. cc) (λ e. cc)).1
  begins (Returns code place) exact cut_off = grew_whole _ _ _ (exact (λ e. cc) (λ e. cc)).1
  begins (Input code row column) exact cut_off = grew_whole _ _ _ (exact (λ e. cc) (λ e. cc)).1
  begins Read exact cut_off = grew_whole _ _ _ (exact (λ e. cc) (λ e. cc)).1
  begins (Limited limit) exact cut_off = grew_whole _ _ _ (exact (λ e. cc) (λ e. cc)).1
  begins (Schedule at) exact cut_off = grew_whole _ _ _ (exact (λ e. cc) (λ e. cc)).1
  begins (ListingLine line) exact cut_off = grew_whole _ _ _ (exact (λ e. cc) (λ e. cc)).1
  begins (ListingWindow window) exact cut_off = grew_whole _ _ _ (exact (λ e. cc) (λ e. cc)).1

-- want of memory may take the place of any other end of a run
ran_short : (P : List ℕ → Bool → Outcome → Type 0) (old new : Outside) (end : Ending) → Ran P old new end → Ran P old new (ending Memory)
ran_short P old new end r = record {
  taken = r.taken;
  outcome = r.outcome;
  gave = r.gave;
  is = r.is;
  no_further = r.no_further;
  exact = λ other _. absurd (other refl);
  cut_off = λ _. (refl, begins old new r.outcome.text (end ≡ ending_of r.outcome) (end.line ≡ line_of end.status) end.status r.exact r.cut_off);
  read_whole = λ e. cc;
  read_fault = λ e. cc;
  write_fault = λ e. cc;
  read_told = λ _. inr (inr refl);
  write_told = λ _. inr refl;
}

-- ---- texts that are made without the input

-- memory ran out before anything was written
pub made_none : (P : List ℕ → Bool → Outcome → Type 0) (old : Outside) (o : Outcome) → ((b : List ℕ) (e : Bool) → P b e o) → Made P old old (ending Memory)
made_none P old o is = record {
  outcome = o;
  is = is;
  unread = refl;
  exact = λ other _. absurd (other refl);
  cut_off = λ _. (refl, within_none old.out.held o.text);
  write_fault = λ e. cc;
  write_told = λ _. inr refl;
}

made_weaker : (P Q : List ℕ → Bool → Outcome → Type 0) (old new : Outside) (end : Ending) → ((b : List ℕ) (e : Bool) (o : Outcome) → P b e o → Q b e o) → Made P old new end → Made Q old new end
made_weaker P Q old new end weaker made = record {
  outcome = made.outcome;
  is = λ b e. weaker b e made.outcome (made.is b e);
  unread = made.unread;
  exact = made.exact;
  cut_off = made.cut_off;
  write_fault = made.write_fault;
  write_told = made.write_told;
}

-- want of memory may take the place of any other end
made_short : (P : List ℕ → Bool → Outcome → Type 0) (old new : Outside) (end : Ending) → Made P old new end → Made P old new (ending Memory)
made_short P old new end m = record {
  outcome = m.outcome;
  is = m.is;
  unread = m.unread;
  exact = λ other _. absurd (other refl);
  cut_off = λ _. (refl, begins old new m.outcome.text (end ≡ ending_of m.outcome) (end.line ≡ line_of end.status) end.status m.exact m.cut_off);
  write_fault = λ e. cc;
  write_told = λ _. inr refl;
}

-- ---- answers

module _ (names : List (List ℕ)) (before after : Filed) (old new : Outside) where
  module _ (P : List ℕ → Bool → Outcome → Type 0) where
    -- and of any other answer
    answered_short : (end : Ending) → Answered names P before after old new end → Answered names P before after old new (ending Memory)
    answered_short end (by_memory memory same) = by_memory refl same
    answered_short end (by_file fault) = by_memory refl fault.same
    answered_short end (by_refusal refusal) = by_memory refl refusal.same
    answered_short end (by_run run) = by_run (ran_short P old new end run)
    answered_short end (by_itself made) = by_itself (made_short P old new end made)

    pub answered_weaker : (Q : List ℕ → Bool → Outcome → Type 0) (end : Ending) → ((b : List ℕ) (e : Bool) (o : Outcome) → P b e o → Q b e o) → Answered names P before after old new end → Answered names Q before after old new end
    answered_weaker Q end weaker (by_memory memory same) = by_memory memory same
    answered_weaker Q end weaker (by_file fault) = by_file fault
    answered_weaker Q end weaker (by_refusal refusal) = by_refusal (record { is = λ b e. weaker b e _ (refusal.is b e); line = refusal.line; same = refusal.same })
    answered_weaker Q end weaker (by_run run) = by_run (ran_weaker P Q old new end weaker run)
    answered_weaker Q end weaker (by_itself made) = by_itself (made_weaker P Q old new end weaker made)

  -- a fault of a file is still told
  told_short : (s : Status) → FileTold names before after old new s → FileTold names before after old new Memory
  told_short s told = λ name own rose. (inr refl, (told name own rose).1)

  module _ (P : ToldFiles → List ℕ → Bool → Outcome → Type 0) where
    served_short : (end : Ending) → Served names P before after old new end → Served names P before after old new (ending Memory)
    served_short end served = record {
      answered = answered_short (P before.held) end served.answered;
      file_told = told_short end.status served.file_told;
      files = served.files;
      counts = served.counts;
    }

    -- a call that ended otherwise than its status says ended with want of memory
    pub served_told : (s t : Status) → (t ≡ s) ⊎ (t ≡ Memory) → Served names P before after old new (ending s) → Served names P before after old new (ending t)
    served_told s t (inl same) served = subst (λ (u : Status). Served names P before after old new (ending u)) (sym same) served
    served_told s t (inr short) served = subst (λ (u : Status). Served names P before after old new (ending u)) (sym short) (served_short (ending s) served)

    pub served_weaker : (Q : ToldFiles → List ℕ → Bool → Outcome → Type 0) (end : Ending) → ((b : List ℕ) (e : Bool) (o : Outcome) → P before.held b e o → Q before.held b e o) → Served names P before after old new end → Served names Q before after old new end
    served_weaker Q end weaker served = record {
      answered = answered_weaker (P before.held) (Q before.held) end weaker served.answered;
      file_told = served.file_told;
      files = served.files;
      counts = served.counts;
    }
