use Rattle.std.proofs.Common.{ap, sym, ◌∙◌}
use Rattle.std.specs.Prelude.{option_copied}
use Rattle.sp_splitter.proofs.Finish.{root_held, root_told}
use Rattle.sp_splitter.proofs.finishing.is_root_done.Goals as goal

pub returns-in_default-get : goal.returns-in_default-get
returns-in_default-get c =
    absurd (root_held c.args.core.now c.tree-tree.result.now c.in-Some.root c.tree-tree.ensures (sym c.in-Some.is ∙ c.root.ensures.root) (sym (ap option_copied c.in_default-get.is) ∙ c.get.ensures))

pub returns : goal.returns
returns c =
    root_told c.args.core.now c.tree-tree.result.now c.in-Some.root c.in-Some-get.held.now c.tree-tree.ensures (sym c.in-Some.is ∙ c.root.ensures.root)
    (sym (ap option_copied c.in-Some-get.is) ∙ c.get.ensures)
