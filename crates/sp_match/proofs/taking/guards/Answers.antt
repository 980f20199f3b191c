use Rattle.std.proofs.Common.{ℕ, ◌-◌, ◌≤◌, sym, ap, subst, ◌∙◌}
use Rattle.std.specs.List.{range_with_len}
use Rattle.sp_base.specs.Numbers.{is_among}
use Rattle.sp_match.specs.inside.Kept.{kept, pairs}
use Rattle.sp_match.proofs.GuardsAreNumbered.{guards_numbered, in_order}
use Rattle.sp_match.proofs.taking.guards.Goals as goal

pub is_within-requires : goal.is_within-requires
is_within-requires c = subst (λ (g : ℕ × ℕ). g.0 ≤ g.1) (sym c.requires.range) (in_order c.args.plan.now (pairs (kept c.args.run.now)))

pub returns : goal.returns
returns c =
    c.is_within.ensures ∙ ap (λ (g : ℕ × ℕ). is_among (range_with_len g.0 (g.1 - g.0)) c.args.name) c.requires.range
    ∙ ap (λ ns. is_among ns c.args.name) (sym (guards_numbered c.args.plan.now (pairs (kept c.args.run.now)) c.requires.compiled))
