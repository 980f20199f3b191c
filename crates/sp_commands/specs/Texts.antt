-- A query's text and a second file's, which a command loads one behind the other, and what is answered to both.
use Rattle.std.specs.Prelude.{◌≡◌, ◌⊎◌, ◌≤◌, ℕ, Bool, List, length}
use Rattle.std.specs.List.{Contains}
use Rattle.sp_base.specs.Limits.{query_limit}
use Rattle.sp_io.specs.Outside.{ToldFiles, HoldsFile, HoldsLonger, Rose}
use Rattle.sp_load.specs.Places.{Place, HasText, IsLonger}
use Rattle.sp_load.specs.declared.refusal.Refusal.{Refusal}
use Rattle.sp_load.specs.declared.refusal.Refusal.TheVariants as r
use Rattle.sp_answer.specs.Outcome.{Outcome, Ending, ending}
use Rattle.sp_answer.specs.Ran.{Outside, Ran}
use Rattle.sp_answer.specs.Promise.{Refused}
use Rattle.sp_answer.specs.declared.status.Status.TheVariants.{Memory}

-- the file of this name holds this, within this limit
abbrev pub HasFile : ToldFiles → ℕ → List ℕ → List ℕ → Type 0
HasFile held limit name content = HoldsFile held name content × (length content ≤ limit)

-- the query or the file, which has this limit, is refused by its length alone
abbrev pub RefusesTexts : ToldFiles → ℕ → Place → List ℕ → Refusal → Type 0
RefusesTexts held limit place name r.Memory = Unit {0}
RefusesTexts held limit place name r.Read = Unit {0}
RefusesTexts held limit place name (r.Limited told) =
    ((told ≡ query_limit) × IsLonger held query_limit place)
    ⊎ ((told ≡ limit) × ((text : List ℕ) × HasText held place text) × HoldsLonger held name limit)
RefusesTexts held limit place name (r.Query code at) = ⊥

-- the count of one of these files rose
abbrev pub OneRose : List (List ℕ) → (List ℕ → ℕ) → (List ℕ → ℕ) → Type 0
OneRose names before after = (name : List ℕ) × Contains names name × Rose (before name) (after name)

-- What was answered to texts: want of memory or a refusal, with nothing read and nothing written, or a run.
pub data AnswersTexts (is_outcome : List ℕ → Bool → Outcome → Type 0) (old new : Outside) (end : Ending) : Type 0 where
  by_memory : end ≡ ending Memory → new ≡ old → AnswersTexts is_outcome old new end
  by_refusal : Refused is_outcome old new end → AnswersTexts is_outcome old new end
  by_run : Ran is_outcome old new end → AnswersTexts is_outcome old new end
