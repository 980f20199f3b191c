use Rattle.std.proofs.Common.{◌≡◌, ℕ, List, ◌++◌, ap, subst, ◌∙◌}
use Rattle.std.specs.Prelude.{OnOk}
use Rattle.std.proofs.lemmas.Grind.{flat_map-append}
use Rattle.std.proofs.lemmas.Result.{on_ok_weaker}
use Rattle.sp_wants.specs.declared.stretch.Stretch.{Stretch}
use Rattle.sp_wants.specs.Stretches.{all_pairs, pairs_of, repeated}
use Rattle.sp_wants.proofs.Stretched.{repeated_lone, repeated_pairs}
use Rattle.sp_wants.proofs.wants.Wants.extend_times.Goals as goal

pub returns-in-Some-clause-added : goal.returns-in-Some-clause-added
returns-in-Some-clause-added c =
    let none : Stretch = record { before = 0; after = 0; times = 0 } in
    let is : all_pairs c.as_slice-stretches.result.now ≡ c.args.other.now = ap all_pairs c.as_slice-stretches.ensures.value ∙ c.other.view_is in
    subst (λ (l : List (ℕ × ℕ)). OnOk c.push_times.result (c.push_times.new.self ≡ c.args.self.now ++ l))
    (repeated_lone c.as_slice-stretches.result.now none c.args.times c.in-Some.all c.if-stretches-eq1.true c.in-Some.ensures.1 ∙ ap (repeated c.args.times) is)
    c.push_times.ensures.added

pub returns-clause-added : goal.returns-clause-added
returns-clause-added c =
    let is : all_pairs c.as_slice-stretches.result.now ≡ c.args.other.now = ap all_pairs c.as_slice-stretches.ensures.value ∙ c.other.view_is in
    on_ok_weaker c.repeat.result
    (λ ok. ap all_pairs ok ∙ flat_map-append pairs_of c.self.inside.stretches.items (repeated c.args.times c.as_slice-stretches.result.now)
    ∙ (λ i. c.self.view_is i ++ (repeated_pairs c.args.times c.as_slice-stretches.result.now ∙ ap (repeated c.args.times) is) i))
    c.repeat.ensures.ok
