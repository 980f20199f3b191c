use Rattle.std.proofs.Common.{◌+◌, List, ap, subst, sym, ◌∙◌}
use Rattle.sp_group.specs.Family.{parent_there}
use Rattle.sp_tree.specs.declared.version.Version.{Version as Branch}
use Rattle.sp_tree.specs.Branches.{branches, changed_by, AreFalling}
use Rattle.sp_tree.proofs.Pruned.{kept_by, gone_by, behind}
use Rattle.sp_tree.proofs.Searched.{falling_behind}
use Rattle.sp_tree.proofs.tree.stays.Goals as goal

pub has_parent-requires : goal.has_parent-requires
has_parent-requires c =
    subst AreFalling (sym (behind c.args.versions.now.items c.args.i c.settle.new.self c.deref.result.now c.deref.ensures.value)) (falling_behind (c.args.i + 1) c.args.versions.now.items c.requires.fall)

pub returns : goal.returns
returns c =
    let rest = behind c.args.versions.now.items c.args.i c.settle.new.self c.deref.result.now c.deref.ensures.value in
    kept_by (changed_by c.args.change) c.args.versions.now.items c.args.i c.settle.new.self c.index_mut-version.result.now c.requires.within c.index_mut-version.ensures.value c.if-not-settle.ensures.0 c.if-not-settle.ensures.1 c.if-not-settle.ensures.2 c.has_parent.result
    (c.has_parent.ensures ∙ ap (λ (l : List Branch). parent_there branches l c.settle.new.self.parent) rest)

pub returns-then-not-settle : goal.returns-then-not-settle
returns-then-not-settle c =
    gone_by (changed_by c.args.change) c.args.versions.now.items c.args.i c.settle.new.self c.index_mut-version.result.now c.requires.within c.index_mut-version.ensures.value c.if-not-settle.ensures.0 c.if-not-settle.ensures.1 c.if-not-settle.ensures.2
