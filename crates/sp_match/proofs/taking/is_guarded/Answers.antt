use Rattle.std.proofs.Common.{ℕ, ◌-◌, sym, ap, ◌∙◌}
use Rattle.std.specs.List.{list_any, range_with_len}
use Rattle.sp_match.specs.inside.Kept.{kept, pairs}
use Rattle.sp_match.specs.inside.Offer.{answer}
use Rattle.sp_match.proofs.GuardsAreNumbered.{guards_numbered}
use Rattle.sp_match.proofs.TakersTell.{answers_guard}
use Rattle.sp_match.proofs.taking.is_guarded.Goals as goal

pub returns : goal.returns
returns c =
    let o = c.args.offer.now in
    let q = o.plan.now in
    let r = pairs (kept c.args.run.now) in
    let p = answer o c.args.at r in
    c.fulfils_one.ensures ∙ ap (λ (g : ℕ × ℕ). list_any p (range_with_len g.0 (g.1 - g.0))) c.ahead_of-first.ensures.ahead.2
    ∙ ap (list_any p) (sym (guards_numbered q r c.requires.offer.compiled)) ∙ answers_guard o.is_told o.takers.now q o.event.now c.args.at r c.requires.told
