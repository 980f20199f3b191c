use Rattle.std.proofs.Common.{◌≡◌, false, IfSome, None, not, sym, ap, subst, ◌∙◌}
use Rattle.std.specs.Option.{option_or}
use Rattle.std.specs.List.{find, last_or}
use Rattle.std.proofs.lemmas.List.Folds.{find-append}
use Rattle.sp_plan.specs.Runs.{again, is_filled, name_holds, unbound}
use Rattle.sp_scan.specs.inside.Ahead.{IsNamed}
use Rattle.sp_scan.proofs.NamedElements.{elements_named, found_fails, found_keeps}
use Rattle.sp_scan.proofs.asking.takes.Goals as goal

pub onward-requires-clause-named : goal.onward-requires-clause-named
onward-requires-clause-named c =
    let q = c.args.offer.now.plan.now in
    let r = c.args.run.now.pairs in
    subst (λ o. IfSome o IsNamed) (sym c.requires.ahead.element_is) (found_keeps IsNamed (λ element. not (is_filled r element)) q.elements (elements_named q c.requires.offer.compiled))

pub onward-requires-clause-unfilled : goal.onward-requires-clause-unfilled
onward-requires-clause-unfilled c =
    let r = c.args.run.now.pairs in
    subst (λ o. IfSome o (λ element. is_filled r element ≡ false)) (sym c.requires.ahead.element_is) (found_fails (is_filled r) c.args.offer.now.plan.now.elements)

pub returns-in-Some : goal.returns-in-Some
returns-in-Some c =
    let q = c.args.offer.now.plan.now in
    let r = c.args.run.now.pairs in
    let p = name_holds q r c.args.offer.now.event.now in
    let more = again q.elements (last_or None r) in
    ap (λ o. option_or o (find p more)) (sym c.in-Some.is ∙ c.onward.ensures ∙ ap (λ o. find p (unbound r o)) c.requires.ahead.element_is)
    ∙ sym (find-append p (unbound r (find (λ element. not (is_filled r element)) q.elements)) more)

pub returns-in-None : goal.returns-in-None
returns-in-None c =
    let q = c.args.offer.now.plan.now in
    let r = c.args.run.now.pairs in
    let p = name_holds q r c.args.offer.now.event.now in
    let more = again q.elements (last_or None r) in
    c.once_more.ensures ∙ ap (find p) c.requires.ahead.again_is
    ∙ ap (λ o. option_or o (find p more)) (sym c.in-None.is ∙ c.onward.ensures ∙ ap (λ o. find p (unbound r o)) c.requires.ahead.element_is)
    ∙ sym (find-append p (unbound r (find (λ element. not (is_filled r element)) q.elements)) more)
