use Rattle.std.proofs.Common.{rules, not, ◌∙◌}
use Rattle.std.proofs.lemmas.Iterator.{YieldsList-from_slice}
use Rattle.std.proofs.lemmas.Iterator.Search.{find_from_yields_List}
use Rattle.sp_base.specs.Numbers.{is_among}
use Rattle.sp_core.proofs.spawning.first_not_open.Goals as goal

pub returns : goal.returns
returns c = c.copied.ensures ∙ find_from_yields_List (λ run. not (is_among c.args.groups.now run)) _ _ _ c.find.ensures.ran (YieldsList-from_slice c.args.label.now cc) (λ x b q k. search rules)
