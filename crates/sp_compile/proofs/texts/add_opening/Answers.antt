use Rattle.std.proofs.Common.{sym, subst}
use Rattle.sp_compile.specs.Gathers.{Gathers}
use Rattle.sp_compile.specs.Stands.{opening_trees}
use Rattle.sp_compile.proofs.Gathering.{gathers_none}
use Rattle.sp_compile.proofs.texts.add_opening.Goals as goal

pub returns-in_default : goal.returns-in_default
returns-in_default c = subst (λ opening. Gathers (opening_trees opening) c.args.texts.now.items c.args.texts.now.items) (sym c.in_default.is) (gathers_none _)
