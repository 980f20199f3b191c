use Rattle.std.proofs.Common.{sym, ap, ◌∙◌}
use Rattle.std.specs.Option.{option_copied_mut}
use Rattle.sp_core.proofs.Popped.{root_live, has_root, has_no_group, root_gone}
use Rattle.sp_core.proofs.finishing.pop.Goals as goal

pub unreachable-requires : goal.unreachable-requires
unreachable-requires c =
    root_live c.args.tree.now.entries c.args.root c.requires.root (sym c.get_mut.ensures.value ∙ ap option_copied_mut c.in_default.is)

pub promote-requires-clause-root : goal.promote-requires-clause-root
promote-requires-clause-root c = has_root c.args.tree.now c.args.root (c.hand_out-matches.new.held) c.requires.root

pub promote-requires-clause-groups : goal.promote-requires-clause-groups
promote-requires-clause-groups c = has_no_group c.args.tree.now c.args.root (c.hand_out-matches.new.held) c.requires.root c.requires.groups

pub returns-clause-tree : goal.returns-clause-tree
returns-clause-tree c = c.promote.ensures.tree ∙ root_gone c.args.tree.now c.args.root (c.hand_out-matches.new.held) c.requires.root
