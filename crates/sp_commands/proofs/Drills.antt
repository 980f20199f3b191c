-- A drill is done where no fault stands in the way.
use Rattle.std.proofs.Common.{◌⊎◌, ◌≡◌, ◌≢◌, inl, inr, ⊎_elim, ℕ, Bool, true, false, List, [], length, sym, ◌∙◌, ap, subst, arith}
use Rattle.std.specs.List.{Contains}
use Rattle.sp_base.specs.Numbers.{with_numbers}
use Rattle.sp_io.specs.Outside.{ToldFiles, Grew, Rose}
use Rattle.sp_plan.specs.declared.plan.Plan.{Plan}
use Rattle.sp_plan.specs.Sequential.{whole}
use Rattle.sp_plan.specs.Windows.{windows}
use Rattle.sp_emit.specs.Summary.{summary}
use Rattle.sp_gen.specs.Generated.{generated}
use Rattle.sp_intake.specs.Reading.{read}
use Rattle.sp_answer.specs.declared.status.Status.TheVariants.{Done, Memory, Read, Write}
use Rattle.sp_answer.specs.Outcome.{Outcome, Ending, number_of}
use Rattle.sp_answer.specs.Ran.{Outside}
use Rattle.sp_answer.specs.Promise.{Filed, Answered, by_memory, by_file, by_refusal, by_run, by_itself}
use Rattle.sp_cli.specs.Commands.{Command, Speed, drill}
use Rattle.sp_commands.specs.Commands.{IsCall, GivesFiles, files_of}
use Rattle.sp_commands.specs.Completes.{IsDrilled, DrillCompletes}
use Rattle.sp_commands.specs.Drill.{drill_text, DrillOutcome}
use Rattle.sp_commands.specs.Outcome.{IsOutcome, CommandOutcome}
use Rattle.sp_commands.proofs.Completing.{cut_by}
use Rattle.sp_commands.proofs.OneCommand.{one_command}

-- a summary is no empty line
summary_some : (a b c d : ℕ) → summary a b c d ≢ []
summary_some a b c d is = cc is

pub text_some : (q : Plan) (events seed : ℕ) → drill_text q events seed ≢ []
text_some q events seed =
    let es = (read q (generated events seed) true).events in
    let progress = whole q es true in
    summary_some (length es) (length (windows q es true)) (length progress.matches) (length (with_numbers [] progress.consumed))

module _ (predictors words : List (List ℕ)) (held : ToldFiles) (events seed : ℕ) (speed : Speed) (call : IsCall predictors words (drill events seed speed)) where
  -- words that are a drill have its outcomes alone
  drill_only : (bytes : List ℕ) (ended : Bool) (o : Outcome) → IsOutcome predictors words held bytes ended o → DrillOutcome events seed o
  drill_only bytes ended o (inl none) = absurd (none.0 (drill events seed speed) call)
  drill_only bytes ended o (inr at) =
      subst (λ (c : Command). CommandOutcome c held bytes ended o) (one_command words at.0 (drill events seed speed) at.1.0 call.0) at.2

  -- and give no file
  no_file : (names : List (List ℕ)) → GivesFiles predictors words names → names ≡ []
  no_file names (inl none) = none.1
  no_file names (inr at) = at.2 ∙ ap files_of (one_command words at.0 (drill events seed speed) at.1.0 call.0)

  module _ (names : List (List ℕ)) (given : GivesFiles predictors words names) (before after : Filed) (old new : Outside) (no_write : Rose old.out.faults new.out.faults → ⊥) where
    drill_done : (end : Ending) → Answered names (IsOutcome predictors words held) before after old new end → IsDrilled events seed old.out new.out (number_of end.status) ⊎ (end.status ≡ Memory)
    drill_done end (by_memory memory same) = inr (ap (λ (e : Ending). e.status) memory)
    drill_done end (by_file fault) =
        let own : Contains [] fault.name = subst (λ (ns : List (List ℕ)). Contains ns fault.name) (no_file names given) fault.own in
        absurd (omega (arith, own.1))
    drill_done end (by_refusal refused) =
        let own = drill_only [] true _ (refused.is [] true) in
        absurd (text_some own.0 events seed (sym (ap (λ (o : Outcome). o.text) own.2)))
    drill_done end (by_run ran) =
        let own = drill_only ran.no_further.front false ran.no_further.outcome ran.no_further.goes_on in
        let clash : Done ≡ Read = sym (ap (λ (o : Outcome). o.status) own.2) ∙ ran.no_further.is_open in
        absurd (cc clash)
    drill_done end (by_itself made) = by (cut_by end.status)
      where
        by : (end.status ≡ Memory) ⊎ ((end.status ≡ Write) ⊎ ((end.status ≢ Memory) × (end.status ≢ Write))) → IsDrilled events seed old.out new.out (number_of end.status) ⊎ (end.status ≡ Memory)
        by (inl memory) = inr memory
        by (inr (inl write)) = absurd (no_write (made.write_fault write).0)
        by (inr (inr neither)) =
            let own = drill_only [] true made.outcome (made.is [] true) in
            let exact = made.exact neither.0 neither.1 in
            inl (record {
              plan = own.0;
              is = own.1;
              number = ap number_of (ap (λ (e : Ending). e.status) exact.0 ∙ ap (λ (o : Outcome). o.status) own.2);
              text = subst (λ (o : Outcome). Grew old.out.held o.text new.out.held) own.2 exact.1;
            })

pub drills_complete : DrillCompletes
drills_complete predictors words before after old new err_old err_new result events seed speed promise call no_write =
    ⊎_elim (λ done. inl (subst (IsDrilled events seed old.out new.out) (sym promise.number) done)) (λ memory. inr (promise.number ∙ ap number_of memory))
    (drill_done predictors words before.held events seed speed call promise.names promise.given before after old new no_write promise.end promise.served.answered)
