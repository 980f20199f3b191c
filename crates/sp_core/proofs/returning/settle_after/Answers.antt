use Rattle.std.proofs.Common.{◌≡◌, ◌≢◌, true, List, [], ℕ, ap, sym, subst, ◌∙◌}
use Rattle.std.specs.List.{All}
use Rattle.std.specs.List.Sorted.{IsStrictlyIncreasing}
use Rattle.sp_base.specs.Numbers.{is_among}
use Rattle.sp_piece.specs.declared.job.Job.{Job}
use Rattle.sp_group.specs.Deciding.{others}
use Rattle.sp_group.specs.Family.{entry_at}
use Rattle.sp_group.specs.Rising.{IsLabel}
use Rattle.sp_tree.specs.Grown.{groups_of, kin, with_all_groups}
use Rattle.sp_tree.specs.Paths.{ids_under}
use Rattle.sp_core.proofs.FirstDecided.{can_decide_last, can_take_first, is_open_now, is_settled_last, live_then, more_then, no_error, none_left, run_given}
use Rattle.sp_core.proofs.returning.settle_after.Goals as goal

pub open_group-requires-clause-given : goal.open_group-requires-clause-given
open_group-requires-clause-given c =
    run_given c.args.tree.now c.args.piece c.args.brought c.requires.can c.job.result.now.version (ap (λ (j : Job). j.version) c.job.ensures) c.args.run c.requires.passing (subst IsLabel (c.runs.ensures.list ∙ c.replace-groups.ensures.value) c.runs.ensures.label)

pub take_up_in-requires : goal.take_up_in-requires
take_up_in-requires c =
    can_take_first c.args.tree.now c.args.piece c.args.brought c.requires.can c.job.result.now.version (ap (λ (j : Job). j.version) c.job.ensures) c.args.run c.requires.passing c.args.passed.now.list c.requires.rooms _ c.open_group.new.self c.in-Ok.ensures.with

pub decide-requires : goal.decide-requires
decide-requires c =
    is_open_now c.args.tree.now c.args.piece c.args.brought c.requires.can c.job.result.now.version (ap (λ (j : Job). j.version) c.job.ensures) c.args.run c.requires.passing c.args.passed.now.list c.requires.rooms _ c.open_group.new.self c.in-Ok.ensures.with c.take_up_in.new.tree c.take_up_in.ensures.taken c.live.ensures.grown

pub set_groups-requires-clause-live : goal.set_groups-requires-clause-live
set_groups-requires-clause-live c =
    live_then c.args.tree.now c.args.piece c.args.brought c.requires.can c.job.result.now.version (ap (λ (j : Job). j.version) c.job.ensures) c.args.run c.requires.passing c.args.passed.now.list c.requires.rooms _ c.open_group.new.self c.in-Ok.ensures.with c.take_up_in.new.tree c.take_up_in.ensures.taken c.live.ensures.grown c.decide.new.self c.decide.ensures.tree c.decisions_add_up.ensures c.live-2.ensures.grown

pub set_groups-requires-clause-more : goal.set_groups-requires-clause-more
set_groups-requires-clause-more c =
    subst (λ (groups : List ℕ). All (λ r. is_among groups r ≡ true) (groups_of (entry_at kin c.decide.new.self.entries c.job.result.now.version))) (sym (c.remove.ensures ∙ ap (others c.args.run) c.replace-groups.ensures.value))
    (more_then c.args.tree.now c.args.piece c.args.brought c.requires.can c.job.result.now.version (ap (λ (j : Job). j.version) c.job.ensures) c.args.run c.requires.passing c.args.passed.now.list c.requires.rooms _ c.open_group.new.self c.in-Ok.ensures.with c.take_up_in.new.tree c.take_up_in.ensures.taken c.live.ensures.grown c.decide.new.self c.decide.ensures.tree c.decisions_add_up.ensures c.live-2.ensures.grown)

pub decide_ended-requires : goal.decide_ended-requires
decide_ended-requires c =
    can_decide_last c.args.tree.now c.args.piece c.args.brought c.requires.can c.job.result.now.version (ap (λ (j : Job). j.version) c.job.ensures) c.args.run c.requires.passing c.args.passed.now.list c.requires.rooms _ c.open_group.new.self c.in-Ok.ensures.with c.take_up_in.new.tree c.take_up_in.ensures.taken c.live.ensures.grown c.decide.new.self c.decide.ensures.tree c.decisions_add_up.ensures c.live-2.ensures.grown c.set_groups.new.self
    (no_error c.set_groups.result (c.set_groups.new.self ≡ with_all_groups c.decide.new.self c.job.result.now.version c.remove.new.self) (ids_under c.decide.new.self.entries c.job.result.now.version ≢ [])
    c.set_groups.ensures.with c.set_groups.ensures.child (λ some. some (none_left c.args.tree.now c.args.piece c.args.brought c.requires.can c.job.result.now.version (ap (λ (j : Job). j.version) c.job.ensures) c.args.run c.requires.passing c.args.passed.now.list c.requires.rooms _ c.open_group.new.self c.in-Ok.ensures.with c.take_up_in.new.tree c.take_up_in.ensures.taken c.live.ensures.grown c.decide.new.self c.decide.ensures.tree c.one_decision_first.ensures c.live.ensures.family))
    ∙ ap (λ (groups : List ℕ). with_all_groups c.decide.new.self c.job.result.now.version groups) (c.remove.ensures ∙ ap (others c.args.run) c.replace-groups.ensures.value))
    (subst IsStrictlyIncreasing (c.runs-2.ensures.list ∙ c.remove.ensures ∙ ap (others c.args.run) c.replace-groups.ensures.value) c.runs-2.ensures.label.rising) c.live-3.ensures.grown

pub returns-clause-ok : goal.returns-clause-ok
returns-clause-ok c =
    is_settled_last c.args.tree.now c.args.piece c.args.brought c.requires.can c.job.result.now.version (ap (λ (j : Job). j.version) c.job.ensures) c.args.run c.requires.passing c.args.passed.now.list c.requires.rooms _ c.open_group.new.self c.in-Ok.ensures.with c.take_up_in.new.tree c.take_up_in.ensures.taken c.live.ensures.grown c.decide.new.self c.decide.ensures.tree c.decisions_add_up.ensures c.live-2.ensures.grown c.set_groups.new.self
    (no_error c.set_groups.result (c.set_groups.new.self ≡ with_all_groups c.decide.new.self c.job.result.now.version c.remove.new.self) (ids_under c.decide.new.self.entries c.job.result.now.version ≢ [])
    c.set_groups.ensures.with c.set_groups.ensures.child (λ some. some (none_left c.args.tree.now c.args.piece c.args.brought c.requires.can c.job.result.now.version (ap (λ (j : Job). j.version) c.job.ensures) c.args.run c.requires.passing c.args.passed.now.list c.requires.rooms _ c.open_group.new.self c.in-Ok.ensures.with c.take_up_in.new.tree c.take_up_in.ensures.taken c.live.ensures.grown c.decide.new.self c.decide.ensures.tree c.one_decision_first.ensures c.live.ensures.family))
    ∙ ap (λ (groups : List ℕ). with_all_groups c.decide.new.self c.job.result.now.version groups) (c.remove.ensures ∙ ap (others c.args.run) c.replace-groups.ensures.value))
    c.one_decision_first.ensures c.deref.result.now c.decide_ended.new.tree
    (c.deref.ensures.value ∙ ap (λ v. v.items) c.take_up_in.ensures.rest.completed) c.decide_ended.ensures
