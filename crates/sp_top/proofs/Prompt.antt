-- A run is prompt: from what an input had given and an outlet had taken to the bytes that were read and written.
use Rattle.std.proofs.Common.{◌≡◌, ◌<◌, ℕ, ℤ, Bool, false, List, ◌++◌, refl, sym, ◌∙◌, ap, subst, arith}
use Rattle.std.proofs.lemmas.Option.{same_Some}
use Rattle.sp_io.specs.Outside.{Gave, Grew, SourceState, SinkState, ToldFiles}
use Rattle.sp_io.proofs.Grew.{grew_more}
use Rattle.sp_plan.specs.declared.event.Event.{Event}
use Rattle.sp_plan.specs.declared.plan.Plan.{Plan}
use Rattle.sp_plan.specs.Lines.{text}
use Rattle.sp_plan.specs.Sequential.{whole}
use Rattle.sp_slack.specs.declared.late.LateRule.{LateRule}
use Rattle.sp_intake.specs.Loose.{Lateness}
use Rattle.sp_intake.specs.Pieces.{Asked}
use Rattle.sp_ports.specs.Stopping.{is_end}
use Rattle.sp_intake.specs.Standing.{Standing}
use Rattle.sp_answer.specs.Outcome.{Outcome}
use Rattle.sp_answer.specs.Ran.{Outside, outside}
use Rattle.sp_cli.specs.Commands.{Command, QuerySource, Speed, run}
use Rattle.sp_load.specs.Places.{Place}
use Rattle.sp_load.specs.Queries.{IsPlanAt}
use Rattle.sp_commands.specs.Commands.{IsCommand, place_of, lateness}
use Rattle.sp_commands.specs.Ends.{came_within}
use Rattle.sp_commands.proofs.Came.{within_told}
use Rattle.sp_top.specs.Coming.{CameBefore, AsksInTime}
use Rattle.sp_commands.specs.Run.{IsPlanRun, RunOutcome, run_outcome}
use Rattle.sp_commands.specs.Run as served
use Rattle.sp_split.specs.Prompt.{TookBefore}
use Rattle.sp_top.specs.Predictors.{AsksNoPredictor}
use Rattle.sp_top.specs.Prompt.{AskedInTime, IsPrompt, RunsPromptly}
use Rattle.sp_top.specs.Prompt as p
use Rattle.sp_top.proofs.Driven.{outlet}

pub in_time : (q : Plan) (l : Lateness) (origin : SourceState) (first last : Standing) (before after : SinkState) (t u : ℕ) (given events : List Event) → AsksInTime q l origin first → Asked first given events last
    → TookBefore q (whole q given false).matches (outlet before t) (outlet after u) → AskedInTime (IsPlanRun q l) (outside origin before) (outside last.source after)
in_time q l origin first last before after t u given events asks asked took =
    let so : CameBefore q l origin last.source given = asks given events last asked in
    let front = so.in_time.front in
    let c = came_within q l front false in
    let open_ : is_end c.stop ≡ false = ap is_end ((within_told q l front false).only_open so.in_time.goes_on) in
    let same : text q (whole q given false).matches ≡ (run_outcome q l front false).text =
    ap (λ (l : List Event). text q (whole q l false).matches) so.are ∙ ap (λ (b : Bool). text q (whole q c.events b).matches) (sym open_) in
    record {
      front = front;
      piece = so.in_time.piece;
      gave = subst (λ (bytes : List ℕ). Gave origin.left bytes last.source.left) so.in_time.are so.gave;
      short = so.in_time.short;
      outcome = run_outcome q l front false;
      is = refl;
      more = took.more;
      written = subst (λ (l : List ℕ). Grew before.held (l ++ took.more) after.held) same
          (grew_more before.held took.between.held after.held (text q (whole q given false).matches) took.more took.took.lines took.grew);
    }

-- the same of another state that is the same
pub prompt_as : (l : Lateness) (q r : Plan) → r ≡ q → (old : Outside) (s t : SourceState) (k m : SinkState) → s ≡ t → k ≡ m → AskedInTime (IsPlanRun r l) old (outside s k) → IsPrompt (IsPlanRun q l) old (outside t m)
prompt_as l q r same old s t k m source sink asked = rw (sym source, sym sink, sym same) (p.in_time asked)

-- a plan that stands there is run promptly
pub prompt_at : (place : Place) (l : Lateness) (held : ToldFiles) (q : Plan) (old new : Outside) → IsPlanAt held place q → IsPrompt (IsPlanRun q l) old new → IsPrompt (RunOutcome place l held) old new
prompt_at place l held q old new is (p.unread same) = p.unread same
prompt_at place l held q old new is (p.in_time asked) = p.in_time (record {
  front = asked.front;
  piece = asked.piece;
  gave = asked.gave;
  short = asked.short;
  outcome = asked.outcome;
  is = subst (λ (o : Outcome). RunOutcome place l held asked.front false o) (sym asked.is) (served.runs q is);
  more = asked.more;
  written = asked.written;
})

-- what a run asks for
abbrev asked_in : QuerySource × Lateness → Command → QuerySource × Lateness
asked_in default (run query speed slack late trees proof) = (query, lateness slack late)
asked_in default _ = default

-- whether it lists proofs
abbrev proof_in : Command → Bool
proof_in (run _ _ _ _ _ proof) = proof
proof_in _ = false

-- the words of a run by one tree are no other's, and it is prompt where it tells lines
pub run_promptly : (words : List (List ℕ)) (held : ToldFiles) (old new : Outside) (query : QuerySource) (speed : Speed) (slack : ℤ) (late : LateRule) (proof : Bool)
    → IsCommand words (run query speed slack late 1 proof) → (proof ≡ false → IsPrompt (RunOutcome (place_of query) (lateness slack late) held) old new) → RunsPromptly words held old new
run_promptly words held old new query speed slack late proof is prompt other fast more rule own =
    let same : run query speed slack late 1 proof ≡ run other fast more rule 1 false = same_Some (run query speed slack late 1 proof) (run other fast more rule 1 false) (sym is ∙ own) in
    subst (λ (asked : QuerySource × Lateness). IsPrompt (RunOutcome (place_of asked.0) asked.1 held) old new) (ap (asked_in (query, lateness slack late)) same) (prompt (ap proof_in same))

pub unread_promptly : (words : List (List ℕ)) (held : ToldFiles) (old new : Outside) → new.input ≡ old.input → RunsPromptly words held old new
unread_promptly words held old new same query speed slack late own = p.unread same

-- words that are another command are no run by one tree
pub no_run : (words : List (List ℕ)) (held : ToldFiles) (old new : Outside) (command : Command) → IsCommand words command → ((query : QuerySource) (speed : Speed) (slack : ℤ) (late : LateRule) → command ≡ run query speed slack late 1 false → ⊥) → RunsPromptly words held old new
no_run words held old new command is other query speed slack late own = absurd (other query speed slack late (same_Some command (run query speed slack late 1 false) (sym is ∙ own)))

-- nor are those of a run by several trees
pub several_run : (words : List (List ℕ)) (held : ToldFiles) (old new : Outside) (query : QuerySource) (speed : Speed) (slack : ℤ) (late : LateRule) (trees : ℕ) (proof : Bool) → 1 < trees
    → IsCommand words (run query speed slack late trees proof) → RunsPromptly words held old new
several_run words held old new query speed slack late trees proof more is =
    no_run words held old new (run query speed slack late trees proof) is (λ other fast wide rule same. let one : trees ≡ 1 = ap trees_in same in omega (arith, more, one))
  where
    trees_in : Command → ℕ
    trees_in (run _ _ _ _ n _) = n
    trees_in _ = 0

-- nor are those of a command that asks no predictor
pub alone_runs_not : (words : List (List ℕ)) (held : ToldFiles) (old new : Outside) (command : Command) → AsksNoPredictor command → IsCommand words command → RunsPromptly words held old new
alone_runs_not words held old new command alone is = no_run words held old new command is (λ query speed slack late same. subst AsksNoPredictor same alone)
