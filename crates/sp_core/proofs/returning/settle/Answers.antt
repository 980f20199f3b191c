use Rattle.std.proofs.Common.{◌≡◌, ap}
use Rattle.sp_piece.specs.declared.job.Job.{Job}
use Rattle.sp_tree.specs.Grown.{with_value}
use Rattle.sp_core.specs.Settling.{IsSameTree, IsSettled}
use Rattle.sp_core.proofs.HomeSettled.{can_still, has_rooms, over_err, over_ok, same_then, same_tree, settled_over}
use Rattle.sp_core.proofs.returning.settle.Goals as goal

pub returns-in_default-make_ready-clause-err : goal.returns-in_default-make_ready-clause-err
returns-in_default-make_ready-clause-err c =
    same_tree c.args.tree.now c.args.piece c.args.brought c.requires c.job.result.now.version (ap (λ (j : Job). j.version) c.job.ensures) c.in-Some.held.now c.in-Some.ensures.value c.make_ready.new.held c.make_ready.ensures.same

pub settle_after-requires-clause-can : goal.settle_after-requires-clause-can
settle_after-requires-clause-can c =
    can_still c.args.tree.now c.args.piece c.args.brought c.requires c.job.result.now.version (ap (λ (j : Job). j.version) c.job.ensures) c.in-Some.held.now c.in-Some.ensures.value c.make_ready.new.held c.make_ready.ensures.same

pub settle_after-requires-clause-rooms : goal.settle_after-requires-clause-rooms
settle_after-requires-clause-rooms c =
    has_rooms c.args.tree.now c.args.piece c.args.brought c.requires c.job.result.now.version (ap (λ (j : Job). j.version) c.job.ensures) c.in-Some.held.now c.in-Some.ensures.value c.make_ready.new.held c.make_ready.ensures.same c.in-Ok.passed.list c.in-Ok.ensures.ready

pub settle_all-requires-clause-can : goal.settle_all-requires-clause-can
settle_all-requires-clause-can c =
    can_still c.args.tree.now c.args.piece c.args.brought c.requires c.job.result.now.version (ap (λ (j : Job). j.version) c.job.ensures) c.in-Some.held.now c.in-Some.ensures.value c.make_ready.new.held c.make_ready.ensures.same

pub settle_all-requires-clause-rooms : goal.settle_all-requires-clause-rooms
settle_all-requires-clause-rooms c =
    has_rooms c.args.tree.now c.args.piece c.args.brought c.requires c.job.result.now.version (ap (λ (j : Job). j.version) c.job.ensures) c.in-Some.held.now c.in-Some.ensures.value c.make_ready.new.held c.make_ready.ensures.same c.in-Ok.passed.list c.in-Ok.ensures.ready

pub returns-in-Some-passing_group-clause-ok : goal.returns-in-Some-passing_group-clause-ok
returns-in-Some-passing_group-clause-ok c =
    over_ok c.settle_after.result (IsSettled (with_value c.args.tree.now c.job.result.now.version c.make_ready.new.held) c.args.piece c.args.brought c.settle_after.new.tree) (IsSettled c.args.tree.now c.args.piece c.args.brought c.settle_after.new.tree)
    (settled_over c.args.tree.now c.args.piece c.args.brought c.requires c.job.result.now.version (ap (λ (j : Job). j.version) c.job.ensures) c.in-Some.held.now c.in-Some.ensures.value c.make_ready.new.held c.make_ready.ensures.same c.settle_after.new.tree) c.settle_after.ensures.ok

pub returns-in-Some-passing_group-clause-err : goal.returns-in-Some-passing_group-clause-err
returns-in-Some-passing_group-clause-err c =
    over_err c.settle_after.result (c.settle_after.new.tree ≡ (with_value c.args.tree.now c.job.result.now.version c.make_ready.new.held)) (IsSameTree c.args.tree.now c.args.piece.job.version c.settle_after.new.tree)
    (same_then c.args.tree.now c.args.piece c.args.brought c.requires c.job.result.now.version (ap (λ (j : Job). j.version) c.job.ensures) c.in-Some.held.now c.in-Some.ensures.value c.make_ready.new.held c.make_ready.ensures.same c.settle_after.new.tree) c.settle_after.ensures.err

pub returns-clause-ok : goal.returns-clause-ok
returns-clause-ok c =
    over_ok c.settle_all.result (IsSettled (with_value c.args.tree.now c.job.result.now.version c.make_ready.new.held) c.args.piece c.args.brought c.settle_all.new.tree) (IsSettled c.args.tree.now c.args.piece c.args.brought c.settle_all.new.tree)
    (settled_over c.args.tree.now c.args.piece c.args.brought c.requires c.job.result.now.version (ap (λ (j : Job). j.version) c.job.ensures) c.in-Some.held.now c.in-Some.ensures.value c.make_ready.new.held c.make_ready.ensures.same c.settle_all.new.tree) c.settle_all.ensures.ok

pub returns-clause-err : goal.returns-clause-err
returns-clause-err c =
    over_err c.settle_all.result (c.settle_all.new.tree ≡ (with_value c.args.tree.now c.job.result.now.version c.make_ready.new.held)) (IsSameTree c.args.tree.now c.args.piece.job.version c.settle_all.new.tree)
    (same_then c.args.tree.now c.args.piece c.args.brought c.requires c.job.result.now.version (ap (λ (j : Job). j.version) c.job.ensures) c.in-Some.held.now c.in-Some.ensures.value c.make_ready.new.held c.make_ready.ensures.same c.settle_all.new.tree) c.settle_all.ensures.err
