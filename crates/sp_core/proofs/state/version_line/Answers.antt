use Rattle.std.proofs.Common.{sym, ap, ◌∙◌}
use Rattle.std.specs.Prelude.{option_copied}
use Rattle.sp_core.specs.Printing.{groups_held}
use Rattle.sp_core.proofs.Printed.{line_is}
use Rattle.sp_core.proofs.state.version_line.Goals as goal

pub returns : goal.returns
returns c =
    line_is c.args.tree.now.entries c.args.id c.in-Some-Some.held.now c.in-Some-Some.label.now _ _ _ _
    (sym (ap option_copied c.in-Some-Some.is-0) ∙ c.label.ensures) (sym (ap option_copied c.in-Some-Some.is-1) ∙ c.get.ensures)
    c.parent.ensures c.in_ok-copy.ensures c.in_ok-copy-2.ensures (c.in_ok-open_groups.ensures ∙ ap groups_held c.get-2.ensures)
