use Rattle.std.proofs.Common.{None, not, sym, ap, ◌∙◌}
use Rattle.std.specs.Option.{option_or}
use Rattle.std.specs.List.{find, last_or}
use Rattle.std.proofs.lemmas.List.Folds.{find-append}
use Rattle.sp_plan.specs.Runs.{again, is_filled, unbound}
use Rattle.sp_match.specs.inside.Kept.{kept, pairs}
use Rattle.sp_match.specs.inside.Offer.{answer}
use Rattle.sp_match.specs.inside.Taking.{first_lacked, once_more}
use Rattle.sp_match.proofs.AheadIsTaken.{once_more_is}
use Rattle.sp_match.proofs.TakersTell.{answers_take}
use Rattle.sp_match.proofs.taking.takes.Goals as goal

pub returns-in-Some : goal.returns-in-Some
returns-in-Some c =
    let o = c.args.offer.now in
    let q = o.plan.now in
    let r = pairs (kept c.args.run.now) in
    let p = answer o c.args.at r in
    let more = again q.elements (last_or None r) in
    ap (λ o. option_or o (find p more)) (sym c.in-Some.is ∙ c.onward.ensures ∙ ap (first_lacked p r) c.ahead_of-ahead.ensures.ahead.0)
    ∙ sym (find-append p (unbound r (find (λ element. not (is_filled r element)) q.elements)) more) ∙ answers_take o.is_told o.takers.now q o.event.now c.args.at r c.requires.told

pub returns-in-None : goal.returns-in-None
returns-in-None c =
    let o = c.args.offer.now in
    let q = o.plan.now in
    let r = pairs (kept c.args.run.now) in
    let p = answer o c.args.at r in
    let more = again q.elements (last_or None r) in
    c.once_more.ensures ∙ ap (once_more p) c.ahead_of-ahead.ensures.ahead.1 ∙ once_more_is p q r
    ∙ ap (λ o. option_or o (find p more)) (sym c.in-None.is ∙ c.onward.ensures ∙ ap (first_lacked p r) c.ahead_of-ahead.ensures.ahead.0)
    ∙ sym (find-append p (unbound r (find (λ element. not (is_filled r element)) q.elements)) more) ∙ answers_take o.is_told o.takers.now q o.event.now c.args.at r c.requires.told
