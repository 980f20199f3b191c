use Rattle.std.proofs.Common.{◌≡◌, ◌+◌, ℤ, pos, ◌≤ℤ◌, false, Some, Option, to_z, of_z, w64, subst, sym, ◌∙◌, ap, refl, arith}
use Rattle.std.specs.Prelude.{is_some}
use Rattle.std.proofs.lemmas.Int.{ints, to_z-of_z}
use Rattle.sp_base.specs.Limits.{number_limit}
use Rattle.sp_slack.specs.HeldBack.{before, is_before, is_late}
use Rattle.sp_slack.specs.Standing.{kept_of}
use Rattle.sp_slack.proofs.Keeping.{kept_stands}
use Rattle.sp_slack.proofs.slack.Slack.offer.Goals as goal

-- a time up to the limit is itself as an `i64`
as_kept : (t : ℤ) → pos 0 ≤ℤ t → t ≤ℤ pos number_limit → to_z w64 (of_z w64 t) ≡ t
as_kept t low high = to_z-of_z w64 t (omega (arith, ints, low, high))

pub returns-clause-kept : goal.returns-clause-kept
returns-clause-kept c = λ events given stands is.
    let s = c.args.self.now in
    let k = kept_of s in
    let e = c.args.event in
    let time = as_kept e.time c.requires.low c.requires.high in
    let none : is_before (before s.slack s.waiting.greatest) e ≡ false = sym (c.missed.ensures.late e (sym time)) ∙ ap is_some c.in_default.is in
    let timely : is_late s.slack events e ≡ false = sym (ap (λ (t : Option ℤ). is_before (before s.slack t) e) stands.latest) ∙ none in
    (timely, kept_stands k events given stands e c.requires.going timely _ refl c.in_ok-add.ensures.held c.in_ok-add.ensures.greatest c.requires.going)
