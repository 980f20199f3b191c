use Rattle.std.proofs.Common.{◌≡◌, Some, ℕ, ap, sym, subst, ◌∙◌, arith, rules}
use Rattle.sp_base.specs.Limits.{batch_limit}
use Rattle.sp_piece.specs.Pieced.{Pieced}
use Rattle.sp_group.specs.declared.step.Step.TheVariants as s
use Rattle.sp_core.specs.Running.{refused}
use Rattle.sp_split.specs.Stages.{CutOff}
use Rattle.sp_split.proofs.AllDone.{none_to_read, idle}
use Rattle.sp_split.proofs.Lone.{leased_cut_off, leased_alone, cut_off_as, turned_from}
use Rattle.sp_split.proofs.Turns.{err_any}
use Rattle.sp_split.proofs.turning.read_on.Goals as goal

pub returns-in-Err-Refused-clause-turned : goal.returns-in-Err-Refused-clause-turned
returns-in-Err-Refused-clause-turned g c =
    let old = c.args.core.now in
    let root = c.requires.root in
    let fault = rw c.in-Err-Refused.field-0-is at c.in-Err-Refused.ensures.fault in
    let refused = subst (λ (id : ℕ). refused old (s.Lease id batch_limit) ≡ Some c.in-Err-Refused.field-0-0) (sym root.2) fault in
    idle old c.lease.new.self c.in-Err-Refused.ensures.err c.requires.none_out
    (none_to_read old.plan old.bound old.machine c.steps_lead_to.ensures.reached c.steps_lead_to.ensures.compiled c.closed_come_first.ensures root.0 batch_limit c.in-Err-Refused.field-0-0 root.1 c.requires.none_out
    c.requires.undone refused)

pub returns-in_err-read_whole-clause-err : goal.returns-in_err-read_whole-clause-err
returns-in_err-read_whole-clause-err g c =
    let cut : CutOff c.args.core.now c.lease.new.self = leased_cut_off c.args.core.now c.lease.new.self c.args.root batch_limit c.in-Ok.ensures.done (omega arith) in
    err_any (CutOff c.args.core.now c.lease.new.self) c.from_residual.result cut

pub bring_home-requires : goal.bring_home-requires
bring_home-requires g c =
    leased_alone c.args.core.now c.lease.new.self c.args.root batch_limit c.in-Ok.ensures.done c.in-Ok.job c.read_whole.new.self c.requires.none_out c.in-Ok.ensures.job
    (c.read_whole.ensures.job ∙ ap (λ (p : Pieced). p.job) c.start-piece.ensures)

pub returns-in_err-bring_home-clause-err : goal.returns-in_err-bring_home-clause-err
returns-in_err-bring_home-clause-err g c =
    let cut : CutOff c.args.core.now c.bring_home.new.core = cut_off_as c.args.core.now c.lease.new.self c.bring_home.new.core
    (leased_cut_off c.args.core.now c.lease.new.self c.args.root batch_limit c.in-Ok.ensures.done (omega arith)) c.in_err-bring_home.ensures.err in
    search rules

pub returns-clause-turned : goal.returns-clause-turned
returns-clause-turned g c =
    turned_from c.args.core.now c.lease.new.self c.bring_home.new.core (leased_cut_off c.args.core.now c.lease.new.self c.args.root batch_limit c.in-Ok.ensures.done (omega arith)) c.in_ok-bring_home.ensures.ok
