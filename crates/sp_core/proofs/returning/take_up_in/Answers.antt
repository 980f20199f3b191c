use Rattle.std.proofs.Common.{ap}
use Rattle.sp_piece.specs.declared.job.Job.{Job}
use Rattle.sp_core.proofs.HomeSettled.{has_taken_up, taker_few, taker_ready}
use Rattle.sp_core.proofs.returning.take_up_in.Goals as goal

pub take_up-requires : goal.take_up-requires
take_up-requires c = record {
  few = taker_few c.args.tree.now c.args.piece c.args.passed.now.list c.args.brought.now c.requires c.job.result.now.version (ap (λ (j : Job). j.version) c.job.ensures) c.in-Some.held.now c.in-Some.ensures.value;
  ready = taker_ready c.args.tree.now c.args.piece c.args.passed.now.list c.args.brought.now c.requires c.job.result.now.version (ap (λ (j : Job). j.version) c.job.ensures) c.in-Some.held.now c.in-Some.ensures.value;
}

pub returns-clause-taken : goal.returns-clause-taken
returns-clause-taken c =
    has_taken_up c.args.tree.now c.args.piece c.args.passed.now.list c.args.brought.now c.requires c.job.result.now.version (ap (λ (j : Job). j.version) c.job.ensures) c.in-Some.held.now c.in-Some.ensures.value
    c.take_up.new.held c.take_up.ensures.taken
