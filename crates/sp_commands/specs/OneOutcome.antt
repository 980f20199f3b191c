-- What words, told files and bytes come to is one thing.
use Rattle.std.specs.Prelude.{◌≡◌, ℕ, Bool, List, Some}
use Rattle.sp_answer.specs.Outcome.{Outcome}
use Rattle.sp_commands.specs.Outcome.{IsOutcome}

-- For predictors of these names, words, files that are told and bytes there is at most one outcome: one status and one text.
abbrev pub OneOutcome : Type 0
OneOutcome = (predictors words : List (List ℕ)) (files : List (List ℕ × List ℕ)) (bytes : List ℕ) (ended : Bool) (one other : Outcome)
    → IsOutcome predictors words (Some files) bytes ended one → IsOutcome predictors words (Some files) bytes ended other → one ≡ other
