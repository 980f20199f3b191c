use Rattle.std.proofs.Common.{◌≡◌, Bool, true, false, not, Option, Some, None, refl, sym, ap, ◌∙◌}
use Rattle.std.specs.Prelude.{is_none, is_some}
use Rattle.sp_plan.specs.declared.plan.Element.{Element}
use Rattle.sp_plan.specs.Runs.{is_filled}
use Rattle.sp_scan.proofs.Searching.{all_or_found}
use Rattle.sp_scan.proofs.run.Run.is_complete.Goals as goal

is_it_none : (b : Bool) (o : Option Element) → not b ≡ is_some o → b ≡ is_none o
is_it_none true None e = refl
is_it_none false None e = cc
is_it_none true (Some x) e = cc
is_it_none false (Some x) e = refl

pub returns : goal.returns
returns c = λ q ahead. is_it_none c.is_none.result c.args.self.now.ahead.element (sym c.is_none.ensures) ∙ ap is_none ahead.element_is ∙ all_or_found (is_filled c.args.self.now.pairs) q.elements
