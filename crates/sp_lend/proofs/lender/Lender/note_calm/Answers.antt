use Rattle.std.proofs.Common.{sym, subst}
use Rattle.sp_core.specs.Running.{Running}
use Rattle.sp_lend.specs.Truth.{AreTrue}
use Rattle.sp_lend.proofs.lender.Lender.note_calm.Goals as goal

pub invariant_of-self : goal.invariant_of-self
invariant_of-self g c = (c.self.invariant.0, subst (λ (r : Running). AreTrue r c.self.inside.front) (sym c.note_calm.ensures) c.self.invariant.1)
