use Rattle.std.proofs.Common.{◌≡◌, ℕ, List, length, Some, subst}
use Rattle.std.specs.Prelude.{Option, slice_get}
use Rattle.sp_graph.proofs.Known.{none_asked}
use Rattle.sp_graph.proofs.outcome.Carried.new.Goals as goal

pub returns-clause-table : goal.returns-clause-table
returns-clause-table c = λ k n is. absurd (none_asked (length c.args.layout.now.texts.now) k n (subst (λ (l : List (Option ℕ)). slice_get l k ≡ Some (Some n)) c.in_ok-new.ensures.blank is))
