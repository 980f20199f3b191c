use Rattle.std.proofs.Common.{List, ℕ, ap, ◌∙◌}
use Rattle.sp_piece.specs.declared.job.Job.{Job}
use Rattle.sp_tree.specs.Grown.{with_all_groups}
use Rattle.sp_core.proofs.HomeSettled.{can_decide, can_take, is_settled}
use Rattle.sp_core.proofs.returning.settle_all.Goals as goal

pub take_up_in-requires : goal.take_up_in-requires
take_up_in-requires c =
    can_take c.args.tree.now c.args.piece c.args.brought c.requires.can c.job.result.now.version (ap (λ (j : Job). j.version) c.job.ensures) c.args.passed.now.list c.requires.rooms _ c.set_groups.new.self (c.in-Ok.ensures.with ∙ ap (λ (groups : List ℕ). with_all_groups c.args.tree.now c.job.result.now.version groups) c.replace-groups.ensures.value)

pub decide_ended-requires : goal.decide_ended-requires
decide_ended-requires c =
    can_decide c.args.tree.now c.args.piece c.args.brought c.requires.can c.job.result.now.version (ap (λ (j : Job). j.version) c.job.ensures) c.args.passed.now.list c.requires.rooms _ c.set_groups.new.self (c.in-Ok.ensures.with ∙ ap (λ (groups : List ℕ). with_all_groups c.args.tree.now c.job.result.now.version groups) c.replace-groups.ensures.value) c.take_up_in.new.tree c.take_up_in.ensures.taken c.live.ensures.grown

pub returns-clause-ok : goal.returns-clause-ok
returns-clause-ok c =
    is_settled c.args.tree.now c.args.piece c.args.brought c.requires.can c.job.result.now.version (ap (λ (j : Job). j.version) c.job.ensures) c.args.passed.now.list c.requires.rooms _ c.set_groups.new.self (c.in-Ok.ensures.with ∙ ap (λ (groups : List ℕ). with_all_groups c.args.tree.now c.job.result.now.version groups) c.replace-groups.ensures.value) c.take_up_in.new.tree c.take_up_in.ensures.taken c.deref.result.now c.decide_ended.new.tree
    (c.deref.ensures.value ∙ ap (λ v. v.items) c.take_up_in.ensures.rest.completed) c.decide_ended.ensures
