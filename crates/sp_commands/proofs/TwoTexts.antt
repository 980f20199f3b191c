-- A query's text and a second file's: what is answered where both are loaded, and where one is refused; and that they come to one thing.
use Rattle.std.proofs.Common.{◌⊎◌, ◌≡◌, ◌≢◌, inl, inr, ℕ, Bool, List, [], ◌∷◌, ◌++◌, Some, refl, sym, ◌∙◌, ap, subst}
use Rattle.sp_base.specs.Limits.{query_limit}
use Rattle.sp_io.specs.Outside.{ToldFiles, HoldsLonger}
use Rattle.sp_load.specs.Places.{Place, file, HasText, IsLonger}
use Rattle.sp_load.specs.Places as places
use Rattle.sp_load.specs.Loads.{RefusesLoad}
use Rattle.sp_load.specs.Laws.{OneText}
use Rattle.sp_load.specs.declared.refusal.Refusal.{Refusal}
use Rattle.sp_load.specs.declared.refusal.Refusal.TheVariants as r
use Rattle.sp_load.proofs.OneTextLaws.{not_longer}
use Rattle.sp_answer.specs.Outcome.{Outcome, Ending, ending, nothing_for}
use Rattle.sp_answer.specs.Ran.{Outside}
use Rattle.sp_answer.specs.Promise.{Filed, Answered, by_memory as memory_answered, by_refusal as refusal_answered, by_run as run_answered, SameCounts, Served}
use Rattle.sp_answer.specs.declared.status.Status.{Status}
use Rattle.sp_answer.specs.declared.status.Status.TheVariants.{Limited}
use Rattle.sp_answer.proofs.Answering.{answered_weaker}
use Rattle.sp_commands.specs.Commands.{files_at}
use Rattle.sp_commands.specs.Ends.{status_of_refusal}
use Rattle.sp_commands.specs.Texts.{HasFile, RefusesTexts, OneRose, AnswersTexts, by_memory, by_refusal, by_run}
use Rattle.sp_commands.proofs.Running.{by_read, quiet_served, fault_served}

-- what both texts come to, over the bytes of the input
abbrev pub OfBoth : Type 1
OfBoth = List ℕ → List ℕ → List ℕ → Bool → Outcome → Type 0

-- The outcome of the query that stands there and of the file of this name, which has this limit: the length of the query counts first, then that of the
-- file, and then what both texts come to.
pub data FilesOutcome (limit : ℕ) (of_both : OfBoth) (place : Place) (name : List ℕ) (held : ToldFiles) (bytes : List ℕ) (ended : Bool) : Outcome → Type 0 where
  long_query : IsLonger held query_limit place → FilesOutcome limit of_both place name held bytes ended (nothing_for (Limited query_limit))
  long_file : (text : List ℕ) → HasText held place text → HoldsLonger held name limit → FilesOutcome limit of_both place name held bytes ended (nothing_for (Limited limit))
  of_texts : (text content : List ℕ) (o : Outcome) → HasText held place text → HasFile held limit name content → of_both text content bytes ended o
      → FilesOutcome limit of_both place name held bytes ended o

-- ---- one outcome

module _ (law : OneText) (files : List (List ℕ × List ℕ)) (limit : ℕ) (of_both : OfBoth) (place : Place) (name : List ℕ) (bytes : List ℕ) (ended : Bool)
    (one_both : (text content : List ℕ) (a b : Outcome) → of_both text content bytes ended a → of_both text content bytes ended b → a ≡ b) where
  -- a file within the limit is none that is longer
  within : (content : List ℕ) → HasFile (Some files) limit name content → HoldsLonger (Some files) name limit → ⊥
  within content holds longer = not_longer files name content limit holds.0 holds.1 longer

  pub one_files : (a b : Outcome) → FilesOutcome limit of_both place name (Some files) bytes ended a → FilesOutcome limit of_both place name (Some files) bytes ended b → a ≡ b
  one_files _ _ (long_query long) (long_query other) = refl
  one_files _ _ (long_query long) (long_file text has longer) = absurd (law.apart files place text has long)
  one_files _ _ (long_query long) (of_texts text content o has holds is) = absurd (law.apart files place text has long)
  one_files _ _ (long_file text has longer) (long_query long) = absurd (law.apart files place text has long)
  one_files _ _ (long_file text has longer) (long_file other also more) = refl
  one_files _ _ (long_file text has longer) (of_texts other content o also holds is) = absurd (within content holds longer)
  one_files _ _ (of_texts text content o has holds is) (long_query long) = absurd (law.apart files place text has long)
  one_files _ _ (of_texts text content o has holds is) (long_file other also longer) = absurd (within content holds longer)
  one_files _ _ (of_texts text content o has holds is) (of_texts other also u there keeps so) =
      let same-text = law.texts files place text other has there in
      let both : Some content ≡ Some also = sym holds.0 ∙ keeps.0 in
      let same-content : content ≡ also = cc both in
      one_both other also o u (subst (λ (c : List ℕ). of_both other c bytes ended o) same-content (subst (λ (t : List ℕ). of_both t content bytes ended o) same-text is)) so

-- ---- what is answered

module _ (limit : ℕ) (of_both : OfBoth) (place : Place) (name : List ℕ) (Of : ToldFiles → List ℕ → Bool → Outcome → Type 0)
    (includes : (held : ToldFiles) (b : List ℕ) (e : Bool) (o : Outcome) → FilesOutcome limit of_both place name held b e o → Of held b e o)
    (before after_ : Filed) (old : Outside) (same_files : after_.held ≡ before.held) where
  abbrev names : List (List ℕ)
  names = files_at place ++ name ∷ []

  module _ (text content : List ℕ) (has : HasText before.held place text) (holds : HasFile before.held limit name content) where
    weaker : (b : List ℕ) (e : Bool) (o : Outcome) → of_both text content b e o → Of before.held b e o
    weaker b e o is = includes before.held b e o (of_texts text content o has holds is)

    pub texts_served : (new : Outside) (end : Ending) → SameCounts before after_ → AnswersTexts (of_both text content) old new end → Served names Of before after_ old new end
    texts_served new end same answers = quiet_served names Of before after_ old same_files new end same (by answers)
      where
        by : AnswersTexts (of_both text content) old new end → Answered names (Of before.held) before after_ old new end
        by (by_memory memory quiet) = memory_answered memory quiet
        by (by_refusal refused) = answered_weaker names before after_ old new (of_both text content) (Of before.held) end weaker (refusal_answered refused)
        by (by_run ran) = answered_weaker names before after_ old new (of_both text content) (Of before.held) end weaker (run_answered ran)

  quiet_answered : (refusal : Refusal) → refusal ≢ r.Read → RefusesTexts before.held limit place name refusal → Answered names (Of before.held) before after_ old old (ending (status_of_refusal refusal))
  quiet_answered r.Memory other refuses = memory_answered refl refl
  quiet_answered r.Read other refuses = absurd (other refl)
  quiet_answered (r.Limited told) other (inl query) = refusal_answered (record {
    is = λ b e. subst (λ (n : ℕ). Of before.held b e (nothing_for (status_of_refusal (r.Limited n)))) (sym query.0) (includes before.held b e _ (long_query query.1));
    line = refl;
    same = refl;
  })
  quiet_answered (r.Limited told) other (inr beside) = refusal_answered (record {
    is = λ b e. subst (λ (n : ℕ). Of before.held b e (nothing_for (status_of_refusal (r.Limited n)))) (sym beside.0) (includes before.held b e _ (long_file beside.1.0 beside.1.1 beside.2));
    line = refl;
    same = refl;
  })
  quiet_answered (r.Query code at) other refuses = absurd refuses

  -- the query or the file is refused before anything is read or written
  pub loads_refused : (refusal : Refusal) (s : Status) → s ≡ status_of_refusal refusal → RefusesTexts before.held limit place name refusal
      → (refusal ≡ r.Read → OneRose names before.faults after_.faults) → (refusal ≢ r.Read → SameCounts before after_) → Served names Of before after_ old old (ending s)
  loads_refused refusal s is refuses rose same = by (by_read refusal)
    where
      by : (refusal ≡ r.Read) ⊎ (refusal ≢ r.Read) → Served names Of before after_ old old (ending s)
      by (inl read) = fault_served names Of before after_ old same_files s (is ∙ ap status_of_refusal read) (rose read)
      by (inr other) =
          quiet_served names Of before after_ old same_files old (ending s) (same other)
          (subst (λ (t : Status). Answered names (Of before.held) before after_ old old (ending t)) (sym is) (quiet_answered refusal other refuses))

-- ---- loads

-- a file that is too long refuses the texts, where the query is not
pub file_refuses : (held : ToldFiles) (limit : ℕ) (place : Place) (name text : List ℕ) → HasText held place text → (refusal : Refusal) → RefusesLoad held limit (file name) refusal → RefusesTexts held limit place name refusal
file_refuses held limit place name text has r.Memory refuses = tt
file_refuses held limit place name text has r.Read refuses = tt
file_refuses held limit place name text has (r.Limited told) refuses = inr (refuses.0, (text, has), longer (file name) refuses.1 refl)
  where
    longer : (at : Place) → IsLonger held limit at → at ≡ file name → HoldsLonger held name limit
    longer _ (places.long_word words more) is = absurd (cc is)
    longer _ (places.long_file own more) is = let same : own ≡ name = cc is in subst (λ (n : List ℕ). HoldsLonger held n limit) same more
file_refuses held limit place name text has (r.Query code at) refuses = absurd refuses
