use Rattle.std.proofs.Common.{ℕ, List, ◌++◌, ap, ◌∙◌}
use Rattle.std.proofs.lemmas.Result.{on_ok_weaker}
use Rattle.sp_match.specs.inside.Kept.{all_kept}
use Rattle.sp_match.proofs.WantsStay.{quiet_want, told_want}
use Rattle.sp_match.proofs.lefts.Lefts.tell.Goals as goal

pub returns-then-quiet-clause-told : goal.returns-then-quiet-clause-told
returns-then-quiet-clause-told c =
    on_ok_weaker c.extend_times.result
    (λ added old have. added ∙ ap (λ (l : List (ℕ × ℕ)). l ++ c.args.self.now.wants) c.requires.none ∙ quiet_want c.args.plan.now c.args.count c.args.self.now.wants c.args.quiet old (all_kept c.args.runs.now) have c.if-quiet.true)
    c.extend_times.ensures.added

pub returns-clause-told : goal.returns-clause-told
returns-clause-told c = λ old have. told_want c.args.plan.now c.args.count c.args.self.now.wants c.want_after.new.wanted c.args.quiet old (all_kept c.args.runs.now) have c.in_ok-want_after.ensures
