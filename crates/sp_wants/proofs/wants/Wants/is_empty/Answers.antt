use Rattle.std.proofs.Common.{◌==◌, ℕ, List, length, ap, ◌∙◌}
use Rattle.sp_wants.proofs.Stretched.{no_pairs}
use Rattle.sp_wants.proofs.wants.Wants.is_empty.Goals as goal

pub returns : goal.returns
returns c =
    c.is_empty.ensures ∙ ap (λ (n : ℕ). n == 0) c.self.inside.stretches.ok.0 ∙ no_pairs c.self.inside.stretches.items c.self.invariant
    ∙ ap (λ (l : List (ℕ × ℕ)). length l == 0) c.self.view_is
