use Rattle.std.proofs.Common.{List, sym, ◌∙◌, ap, subst}
use Rattle.std.proofs.lemmas.List.{append-nil}
use Rattle.sp_core.specs.declared.emitted.Emitted.{Emitted}
use Rattle.sp_splitter.specs.Stages.{matches_of}
use Rattle.sp_split.specs.declared.turning.Turn.{Turn}
use Rattle.sp_split.specs.declared.turning.Turn.TheVariants as t
use Rattle.sp_split.specs.Stages.{Turned}
use Rattle.sp_split.proofs.Added.{Worked, cut_off, none_left, short_of, turn_more, window_more}
use Rattle.sp_split.proofs.Relieved.{relieved_then}
use Rattle.sp_split.proofs.Turns.{err_any}
use Rattle.sp_split.proofs.working.work_off.Goals as goal
use Rattle.sp_split.proofs.working.work_off.Goals.{in-Worked, in-Finished+in_ok-push-in-Finished}

pub returns-in_err-turn_on-clause-short : goal.returns-in_err-turn_on-clause-short
returns-in_err-turn_on-clause-short g c =
    err_any _ c.from_residual.result (cut_off c.args.core.now c.loop.core c.turn_on.new.core (matches_of c.loop.finished.items) c.loop.invariant.worked c.in_err-turn_on.ensures.err)

pub returns-in-Idle-clause-done : goal.returns-in-Idle-clause-done
returns-in-Idle-clause-done g c =
    none_left c.args.core.now c.loop.core c.turn_on.new.core (matches_of c.loop.finished.items) c.loop.invariant.worked
    (subst (λ (turn : Turn). Turned c.loop.core c.turn_on.new.core turn) c.in-Idle.is c.in_ok-turn_on.ensures.turned)

pub returns-in_err-push-in-Finished-clause-short : goal.returns-in_err-push-in-Finished-clause-short
returns-in_err-push-in-Finished-clause-short g c =
    let ms = matches_of c.loop.finished.items in
    err_any _ c.from_residual-in_err-push-in-Finished.result
    (short_of c.args.core.now c.turn_on.new.core _ (turn_more c.args.core.now c.loop.core c.turn_on.new.core ms c.loop.invariant.worked _ c.in_ok-turn_on.ensures.turned))

pub returns-in_err-turn_on-clause-relieved : goal.returns-in_err-turn_on-clause-relieved
returns-in_err-turn_on-clause-relieved g c =
    relieved_then (λ one. (goal.Predictor-dyn g (one.vtable, one.value)).named one.value) c.args.team.now c.loop.team c.turn_on.new.team c.loop.invariant.relieved c.turn_on.ensures.relieved

pub returns-in-Idle-clause-relieved : goal.returns-in-Idle-clause-relieved
returns-in-Idle-clause-relieved g c =
    relieved_then (λ one. (goal.Predictor-dyn g (one.vtable, one.value)).named one.value) c.args.team.now c.loop.team c.turn_on.new.team c.loop.invariant.relieved c.turn_on.ensures.relieved

pub returns-in_err-push-in-Finished-clause-relieved : goal.returns-in_err-push-in-Finished-clause-relieved
returns-in_err-push-in-Finished-clause-relieved g c =
    relieved_then (λ one. (goal.Predictor-dyn g (one.vtable, one.value)).named one.value) c.args.team.now c.loop.team c.turn_on.new.team c.loop.invariant.relieved c.turn_on.ensures.relieved

pub loop-preserved : goal.loop-preserved
loop-preserved g c =
    let a = c.args.core.now in
    let b = c.loop.core in
    let d = c.turn_on.new.core in
    let ms = matches_of c.loop.finished.items in
    record {
      worked = elim c.match-branch-2.branch [
        | in-Worked w ↦
            subst (Worked a d) (append-nil ms ∙ ap (λ (v : List Emitted). matches_of v) (ap (λ v. v.items) (sym w.finished-is)))
            (turn_more a b d ms c.loop.invariant.worked t.Worked (subst (λ (turn : Turn). Turned b d turn) w.in-Worked.is c.in_ok-turn_on.ensures.turned))
        | in-Finished+in_ok-push-in-Finished w ↦
            let x = w.in-Finished.emitted in
            subst (Worked a d) (sym (window_more c.loop.finished.items x) ∙ ap (λ (v : List Emitted). matches_of v) (sym w.in_ok-push-in-Finished.ensures.items ∙ ap (λ v. v.items) (sym w.finished-is)))
            (turn_more a b d ms c.loop.invariant.worked (t.Finished x) (subst (λ (turn : Turn). Turned b d turn) w.in-Finished.is c.in_ok-turn_on.ensures.turned))
      ];
      relieved = relieved_then (λ one. (goal.Predictor-dyn g (one.vtable, one.value)).named one.value) c.args.team.now c.loop.team c.turn_on.new.team c.loop.invariant.relieved c.turn_on.ensures.relieved;
      due = c.in_ok-turn_on.ensures.due;
    }
