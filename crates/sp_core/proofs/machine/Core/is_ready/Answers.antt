use Rattle.std.proofs.Common.{◌≡◌, Bool, true, false, not, is_none, is_some, sym, ap, ◌∙◌}
use Rattle.sp_core.proofs.machine.Core.is_ready.Goals as goal

flip : (a b : Bool) → a ≡ not b → b ≡ not a
flip a true is = sym (ap not is)
flip a false is = sym (ap not is)

pub returns : goal.returns
returns c = flip (is_some c.lease_refusal.result) c.is_none.result c.is_none.ensures ∙ ap is_none (c.lease_refusal.ensures 1)
