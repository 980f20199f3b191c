use Rattle.std.proofs.Common.{rules, tests}
use Rattle.std.proofs.lemmas.List.{length_push}
use Rattle.std.proofs.lemmas.Iterator.Consumers.{YieldsList-turn, YieldsList-end, YieldsList-at}
use Rattle.std.proofs.lemmas.Iterator.Splits.{YieldsList-from_slice_split}
use Rattle.sp_sched.proofs.Parts.{is_mark}
use Rattle.sp_sched.proofs.Labels.{sets_out, none_at, goes, arrives}
use Rattle.sp_sched.proofs.label.runs_of.Goals as goal

pub loop-part-init : goal.loop-part-init
loop-part-init c = sets_out _ _ c.new-runs.ensures.items

pub returns-in_default : goal.returns-in_default
returns-in_default c =
    let turn = YieldsList-turn (YieldsList-at c.into_iter-part-iterator.ensures.into_iter_gives (YieldsList-from_slice_split _ (is_mark 44) c.args.text.now c.split-part-items.ensures.rest c.split-part-items.ensures.done c.split-part-items.ensures.closure (λ x b q k. search (rules, tests))))
    c.loop-part.yielded _ c.loop-part.yielded_by _ _ c.in-Some.part c.in-Some.is c.next.ensures.steps in
    none_at _ _ _ turn _ c.from.ensures c.in_default.ensures

pub loop-part-preserved : goal.loop-part-preserved
loop-part-preserved c =
    let turn = YieldsList-turn (YieldsList-at c.into_iter-part-iterator.ensures.into_iter_gives (YieldsList-from_slice_split _ (is_mark 44) c.args.text.now c.split-part-items.ensures.rest c.split-part-items.ensures.done c.split-part-items.ensures.closure (λ x b q k. search (rules, tests))))
    c.loop-part.yielded _ c.loop-part.yielded_by _ _ c.in-Some.part c.in-Some.is c.next.ensures.steps in
    goes _ _ _ turn _ c.from.ensures _ _ _ _ c.loop-part.invariant c.in-Some-number.ensures c.in_ok-push.ensures.items (length_push c.loop-part.yielded c.in-Some.part)

pub returns : goal.returns
returns c =
    let done = YieldsList-end (YieldsList-at c.into_iter-part-iterator.ensures.into_iter_gives (YieldsList-from_slice_split _ (is_mark 44) c.args.text.now c.split-part-items.ensures.rest c.split-part-items.ensures.done c.split-part-items.ensures.closure (λ x b q k. search (rules, tests))))
    c.loop-part.yielded _ c.loop-part.yielded_by _ _ c.in-None.is c.next.ensures.steps in
    arrives _ _ _ c.loop-part.invariant done.1
