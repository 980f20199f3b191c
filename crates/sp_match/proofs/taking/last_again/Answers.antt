use Rattle.std.proofs.Common.{◌≡◌, ◌-◌, length, Some, None, refl, sym, ap, ◌∙◌}
use Rattle.std.specs.Prelude.{slice_get, option_map}
use Rattle.std.specs.List.{last_or}
use Rattle.sp_match.specs.inside.Kept.{kept, pairs}
use Rattle.sp_match.proofs.PairsOfRuns.{last_name, last_at}
use Rattle.sp_match.proofs.AheadIsTaken.{again_nothing, again_some}
use Rattle.sp_match.proofs.taking.last_again.Goals as goal

pub returns-in-Some : goal.returns-in-Some
returns-in-Some c =
    let q = c.args.plan.now in
    let run = c.args.run.now in
    let r = pairs (kept run) in
    let name = c.in-Some.field-0.now.0 in
    let last : last_or None run.bound.items ≡ Some c.in-Some.field-0.now =
    sym (c.in-Some.ensures.value ∙ ap (λ bs. slice_get bs (length bs - 1)) c.deref.ensures.value ∙ last_at run.bound.items) in
    let named : option_map (λ x. x.name) (last_or None r) ≡ Some name = last_name run.bound.items run.events None None c.requires.good.same_names refl ∙ ap (λ o. option_map (λ x. x.0) o) last in
    c.repeated.ensures ∙ sym (again_some q.elements (last_or None r) name named)

pub returns-in-None : goal.returns-in-None
returns-in-None c =
    let q = c.args.plan.now in
    let run = c.args.run.now in
    let r = pairs (kept run) in
    let last : last_or None run.bound.items ≡ None =
    sym (c.in-None.ensures.value ∙ ap (λ bs. slice_get bs (length bs - 1)) c.deref.ensures.value ∙ last_at run.bound.items) in
    let named : option_map (λ x. x.name) (last_or None r) ≡ None = last_name run.bound.items run.events None None c.requires.good.same_names refl ∙ ap (λ o. option_map (λ x. x.0) o) last in
    sym (again_nothing q.elements (last_or None r) named)
