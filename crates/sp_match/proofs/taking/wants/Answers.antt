use Rattle.std.proofs.Common.{◌≡◌, true, false, ◌||◌, sym, ◌∙◌}
use Rattle.sp_base.specs.Numbers.{is_among}
use Rattle.sp_plan.specs.Runs.{guards, unbound}
use Rattle.sp_match.specs.inside.Kept.{kept, pairs}
use Rattle.sp_match.specs.inside.Taking.{is_again, last_again, next_element}
use Rattle.sp_match.proofs.TakersTell.{wanted_are}
use Rattle.sp_match.proofs.taking.wants.Goals as goal

pub returns-then-may_take : goal.returns-then-may_take
returns-then-may_take c =
    let q = c.args.plan.now in
    let r = pairs (kept c.args.run.now) in
    let name = c.args.name in
    let own : true ≡ (is_among (unbound r (next_element q r)) name || is_again name (last_again q r)) =
    sym c.if-may_take.true ∙ c.may_take.ensures ∙ λ i. is_among (unbound r (c.ahead_of-ahead.ensures.ahead.0 i)) name || is_again name (c.ahead_of-ahead.ensures.ahead.1 i) in
    c.if-may_take.true ∙ (λ i. own i || is_among (guards q r) name) ∙ sym (wanted_are q r name)

pub returns-else-may_take : goal.returns-else-may_take
returns-else-may_take c =
    let q = c.args.plan.now in
    let r = pairs (kept c.args.run.now) in
    let name = c.args.name in
    let own : false ≡ (is_among (unbound r (next_element q r)) name || is_again name (last_again q r)) =
    sym c.if-may_take.false ∙ c.may_take.ensures ∙ λ i. is_among (unbound r (c.ahead_of-ahead.ensures.ahead.0 i)) name || is_again name (c.ahead_of-ahead.ensures.ahead.1 i) in
    c.guards.ensures ∙ (λ i. own i || is_among (guards q r) name) ∙ sym (wanted_are q r name)
