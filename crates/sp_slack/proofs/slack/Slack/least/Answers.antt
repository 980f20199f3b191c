use Rattle.std.proofs.Common.{◌≡◌, ◌-ℤ◌, to_z, of_z, w64, sym, ◌∙◌, ap, arith}
use Rattle.std.proofs.lemmas.Int.{ints, to_z-of_z}
use Rattle.sp_slack.specs.HeldBack.{before}
use Rattle.sp_slack.proofs.slack.Slack.least.Goals as goal

pub overflow_sub-result : goal.overflow_sub-result
overflow_sub-result c =
    let s = c.args.self.now in
    let t = c.greatest.ensures.timed c.in-Some.greatest (c.in-Some.is) in
    omega (arith, ints, s.least_slack, s.most_slack, t)

pub returns-in-Some : goal.returns-in-Some
returns-in-Some c =
    let s = c.args.self.now in
    let g = c.in-Some.greatest in
    let t = c.greatest.ensures.timed g c.in-Some.is in
    let one : to_z w64 (of_z w64 g) ≡ g = to_z-of_z w64 g (omega (arith, ints, t)) in
    let other : to_z w64 (of_z w64 s.slack) ≡ s.slack = to_z-of_z w64 s.slack (omega (arith, ints, s.least_slack, s.most_slack)) in
    let less : to_z w64 (of_z w64 (g -ℤ s.slack)) ≡ g -ℤ s.slack = to_z-of_z w64 (g -ℤ s.slack) (omega (arith, ints, s.least_slack, s.most_slack, t)) in
    rw (one, other, less) (sym (ap (before s.slack) (sym c.greatest.ensures.is ∙ c.in-Some.is)))
