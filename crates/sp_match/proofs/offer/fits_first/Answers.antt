use Rattle.std.proofs.Common.{◌≡◌, [], Some, None, refl, sym, ap, ◌∙◌, rules}
use Rattle.std.specs.Prelude.{slice_get}
use Rattle.std.proofs.lemmas.Option.{slice_get_read, slice_get_past}
use Rattle.sp_plan.specs.Values.{holds}
use Rattle.sp_plan.specs.Runs.{fits_name}
use Rattle.sp_match.proofs.offer.fits_first.Goals as goal

pub returns-in-Some : goal.returns-in-Some
returns-in-Some c =
    let q = c.args.plan.now in
    let at : slice_get c.as_slice.result.now c.args.name ≡ Some c.in-Some.name.now = slice_get_read c.as_slice.result.now _ c.args.name c.in-Some.name.now refl (search rules) (search rules) in
    let found : slice_get q.names c.args.name ≡ Some c.in-Some.name.now = ap (λ ns. slice_get ns c.args.name) (sym c.as_slice.ensures) ∙ at in
    c.holds.ensures ∙ ap (λ b. holds c.in-Some.name.now.pred c.args.event.now b) c.requires.none ∙ sym (ap (λ o. fits_name o [] c.args.event.now) found)

pub returns-in-None : goal.returns-in-None
returns-in-None c =
    let q = c.args.plan.now in
    let found : slice_get q.names c.args.name ≡ None = ap (λ ns. slice_get ns c.args.name) (sym c.as_slice.ensures) ∙ slice_get_past c.as_slice.result.now c.args.name (search rules) in
    sym (ap (λ o. fits_name o [] c.args.event.now) found)
