use Rattle.std.proofs.Common.{◌∙◌, sym, ap}
use Rattle.std.proofs.lemmas.Slice.Eq.{slice_eq-Decides}
use Rattle.sp_wants.specs.Stretches.{all_pairs}
use Rattle.sp_wants.proofs.Stretched.{stretch_decides}
use Rattle.sp_wants.proofs.wants.Wants.same.Goals as goal

pub returns : goal.returns
returns c = λ yes.
    sym c.self.view_is ∙ ap all_pairs ((slice_eq-Decides stretch_decides c.self.inside.stretches.items c.other.inside.stretches.items c.eq.result c.eq.ensures).0 yes) ∙ c.other.view_is
