-- How far a run had written when it asked for more of its input.
use Rattle.std.specs.Prelude.{◌≡◌, ◌≤◌, ℕ, ℤ, Bool, false, List, ◌++◌, length}
use Rattle.sp_base.specs.Limits.{piece_limit}
use Rattle.sp_io.specs.Outside.{Gave, Grew, ToldFiles}
use Rattle.sp_answer.specs.Outcome.{Outcome}
use Rattle.sp_answer.specs.Ran.{Outside}
use Rattle.sp_slack.specs.declared.late.LateRule.{LateRule}
use Rattle.sp_cli.specs.Commands.{QuerySource, Speed, run}
use Rattle.sp_commands.specs.Commands.{IsCommand, place_of, lateness}
use Rattle.sp_commands.specs.Run.{RunOutcome}

-- Of the input two parts were taken, of which the second is at most a piece, the last that was asked for. What the first comes to, where the input
-- may go on behind it, had been written: it stands in the output, and whatever else was written stands behind it.
pub record AskedInTime (is_outcome : List ℕ → Bool → Outcome → Type 0) (old new : Outside) : Type 0 where
  pub front : List ℕ
  pub piece : List ℕ
  pub gave : Gave old.input.left (front ++ piece) new.input.left
  pub short : length piece ≤ piece_limit
  pub outcome : Outcome
  pub is : is_outcome front false outcome
  pub more : List ℕ
  pub written : Grew old.out.held (outcome.text ++ more) new.out.held

-- nothing was taken of the input, or each piece was asked for in time
pub data IsPrompt (is_outcome : List ℕ → Bool → Outcome → Type 0) (old new : Outside) : Type 0 where
  unread : new.input ≡ old.input → IsPrompt is_outcome old new
  in_time : AskedInTime is_outcome old new → IsPrompt is_outcome old new

-- where the words are a run by one tree that tells lines, it is prompt
abbrev pub RunsPromptly : List (List ℕ) → ToldFiles → Outside → Outside → Type 0
RunsPromptly words held old new =
    (query : QuerySource) (speed : Speed) (slack : ℤ) (late : LateRule) → IsCommand words (run query speed slack late 1 false)
    → IsPrompt (RunOutcome (place_of query) (lateness slack late) held) old new
