use Rattle.std.proofs.Common.{◌≡◌, ◌-◌, length, Some, None, refl, sym, ap, ◌∙◌}
use Rattle.std.specs.Prelude.{slice_get, option_map}
use Rattle.std.specs.List.{last_or}
use Rattle.sp_match.specs.inside.Kept.{kept, pairs}
use Rattle.sp_match.specs.inside.Taking.{range_of}
use Rattle.sp_match.proofs.GuardsAreNumbered.{guards_named, none_counted, none_guards}
use Rattle.sp_match.proofs.PairsOfRuns.{last_name, last_at}
use Rattle.sp_match.proofs.taking.guards_of.Goals as goal

pub returns-then-not-has_negated : goal.returns-then-not-has_negated
returns-then-not-has_negated c = none_guards c.args.plan.now (pairs (kept c.args.run.now)) (none_counted c.args.plan.now.elements (sym c.has_negated.ensures ∙ c.if-not-has_negated.true))

pub returns-in-Some : goal.returns-in-Some
returns-in-Some c =
    let q = c.args.plan.now in
    let run = c.args.run.now in
    let r = pairs (kept run) in
    let name = c.in-Some.field-0.now.0 in
    let last : last_or None run.bound.items ≡ Some c.in-Some.field-0.now =
    sym (c.in-Some.ensures.value ∙ ap (λ bs. slice_get bs (length bs - 1)) c.deref.ensures.value ∙ last_at run.bound.items) in
    let named : option_map (λ x. x.name) (last_or None r) ≡ Some name = last_name run.bound.items run.events None None c.requires.good.same_names refl ∙ ap (λ o. option_map (λ x. x.0) o) last in
    c.guards_behind.ensures ∙ ap range_of (guards_named q.elements r (last_or None r) name named)
