use Rattle.std.proofs.Common.{◌≡◌, ℕ, List, ◌++◌, map, subst, ◌∙◌}
use Rattle.std.specs.Prelude.{OnOk}
use Rattle.std.specs.Arc.{arc_value}
use Rattle.sp_wants.specs.Stretches.{repeated}
use Rattle.sp_match.specs.public.Matching.{wanted_as_before}
use Rattle.sp_match.specs.inside.Kept.{kept}
use Rattle.sp_match.specs.inside.Wanted.{all_as_before}
use Rattle.sp_match.proofs.WantsStay.{as_wanted}
use Rattle.sp_match.proofs.matcher.Matcher.add_wanted.Goals as goal

pub returns-then-self-clause-added : goal.returns-then-self-clause-added
returns-then-self-clause-added c =
    subst (λ (l : List (ℕ × ℕ)). OnOk c.extend_times.result (c.extend_times.new.self ≡ c.args.wanted.now ++ repeated c.args.times l))
    (c.self.invariant.2 c.if-self.true ∙ as_wanted (arc_value c.self.inside.plan) (map kept c.self.inside.runs.items) c.args.self.now c.self.inside.count c.self.view_is)
    c.extend_times.ensures.added

pub returns-clause-added : goal.returns-clause-added
returns-clause-added c =
    let own : c.want_as_before.new.wanted ≡ wanted_as_before c.args.self.now =
    c.in_ok-want_as_before.ensures ∙ (λ i. c.clear.ensures i ++ all_as_before (c.deref.ensures i) (map kept (c.deref-2.ensures.value i)))
    ∙ as_wanted (arc_value c.self.inside.plan) (map kept c.self.inside.runs.items) c.args.self.now c.self.inside.count c.self.view_is in
    subst (λ (l : List (ℕ × ℕ)). OnOk c.extend_times-2.result (c.extend_times-2.new.self ≡ c.args.wanted.now ++ repeated c.args.times l)) own c.extend_times-2.ensures.added
