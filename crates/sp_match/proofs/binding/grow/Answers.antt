use Rattle.std.proofs.Common.{◌≡◌, [], ◌∷◌, ◌++◌, map, sym, ap, subst, ◌∙◌, arith}
use Rattle.std.proofs.lemmas.List.{append_assoc, map_push}
use Rattle.std.specs.Prelude.{IfSome, Option, slice_get}
use Rattle.sp_plan.specs.Runs.{is_complete, is_consumed}
use Rattle.sp_plan.specs.Moves.{Told, GrownTold}
use Rattle.sp_match.specs.declared.run.Ahead.{Ahead}
use Rattle.sp_match.specs.inside.Kept.{Kept, grown, kept, pairs}
use Rattle.sp_match.specs.inside.Good.{Good, RunUndoes}
use Rattle.sp_match.specs.inside.Taking.{IsAhead}
use Rattle.sp_match.specs.inside.Effects.{looking, run_with_event, run_if_complete, told_if_complete}
use Rattle.sp_match.specs.public.Seen.{seen}
use Rattle.sp_match.proofs.AheadStays.{still_ahead}
use Rattle.sp_match.proofs.GrownRunIsGood.{good_grown}
use Rattle.sp_match.proofs.NamesAreCounted.{bound_few}
use Rattle.sp_match.proofs.RunsAfterBinding.{used_below}
use Rattle.sp_match.proofs.RunsUndo.{run_fate, run_bound}
use Rattle.sp_match.proofs.binding.grow.Goals as goal

pub grow-requires : goal.grow-requires
grow-requires c =
    let k = kept c.args.run.now in
    let most = bound_few c.args.offer.now.plan.now (pairs k) c.requires.offer.compiled in
    record {
      named = omega (arith, c.requires.named, c.requires.offer.compiled.names);
      flags = c.requires.good.flags;
      few = omega (arith, most, c.requires.good.counted, c.requires.offer.compiled.names);
      below = used_below c.args.offer.now.plan.now c.args.offer.now.number (kept c.args.run.now) c.requires.good c.requires.below;
    }

pub look_on-requires-clause-good : goal.look_on-requires-clause-good
look_on-requires-clause-good c =
    let q = c.args.offer.now.plan.now in
    let k = kept c.args.run.now in
    let is : kept c.grow.new.self ≡ grown c.args.name (is_consumed (slice_get q.names c.args.name)) c.args.offer.now.number c.args.offer.now.event.now k = c.in_ok-grow.ensures.grown ∙ (λ i. grown c.args.name (c.is_consumed-consumed.ensures i) c.args.offer.now.number (c.in_ok-event.ensures.event i) k) in
    subst (Good q) (sym is) (good_grown q c.args.name c.args.offer.now.number c.args.offer.now.event.now k c.requires.good c.requires.named c.requires.offer.compiled c.requires.binds c.requires.offer.small c.requires.below)

pub look_on-requires-clause-known : goal.look_on-requires-clause-known
look_on-requires-clause-known c =
    let q = c.args.offer.now.plan.now in
    let k = kept c.args.run.now in
    subst (λ (n : Kept). IfSome c.ahead_still-known.result (λ ahead. IsAhead q (pairs n) ahead)) (sym c.in_ok-grow.ensures.grown)
    (subst (λ (o : Option Ahead). IfSome o (λ ahead. IsAhead q (pairs (grown c.args.name c.is_consumed-consumed.result c.args.offer.now.number c.in_ok-event.event k)) ahead)) (sym c.ahead_still-known.ensures)
    (still_ahead q c.args.name c.args.offer.now.number c.is_consumed-consumed.result c.in_ok-event.event k c.requires.good))

pub returns-in_err-push-clause-undoes : goal.returns-in_err-push-clause-undoes
returns-in_err-push-clause-undoes c =
    let q = c.args.offer.now.plan.now in
    let k = kept c.args.run.now in
    let is : kept c.look_on.new.run ≡ run_with_event q c.args.name (c.args.offer.now.number, c.args.offer.now.event.now) k = c.look_on.ensures ∙ ap (looking q) c.in_ok-grow.ensures.grown ∙ (λ i. looking q (grown c.args.name (c.is_consumed-consumed.ensures i) c.args.offer.now.number (c.in_ok-event.ensures.event i) k)) in
    subst (RunUndoes q c.args.offer.now.number k) (sym is) (run_bound q c.args.name (c.args.offer.now.number, c.args.offer.now.event.now) k c.requires.good c.requires.named c.requires.offer.compiled c.requires.binds c.requires.offer.small c.requires.below)

pub finish-requires-clause-good : goal.finish-requires-clause-good
finish-requires-clause-good c =
    let q = c.args.offer.now.plan.now in
    let k = kept c.args.run.now in
    let is : kept c.look_on.new.run ≡ run_with_event q c.args.name (c.args.offer.now.number, c.args.offer.now.event.now) k = c.look_on.ensures ∙ ap (looking q) c.in_ok-grow.ensures.grown ∙ (λ i. looking q (grown c.args.name (c.is_consumed-consumed.ensures i) c.args.offer.now.number (c.in_ok-event.ensures.event i) k)) in
    subst (Good q) (sym is) (run_bound q c.args.name (c.args.offer.now.number, c.args.offer.now.event.now) k c.requires.good c.requires.named c.requires.offer.compiled c.requires.binds c.requires.offer.small c.requires.below).good

pub returns-in_err-is_whole-clause-undoes : goal.returns-in_err-is_whole-clause-undoes
returns-in_err-is_whole-clause-undoes c =
    let q = c.args.offer.now.plan.now in
    let k = kept c.args.run.now in
    let is : kept c.look_on.new.run ≡ run_with_event q c.args.name (c.args.offer.now.number, c.args.offer.now.event.now) k = c.look_on.ensures ∙ ap (looking q) c.in_ok-grow.ensures.grown ∙ (λ i. looking q (grown c.args.name (c.is_consumed-consumed.ensures i) c.args.offer.now.number (c.in_ok-event.ensures.event i) k)) in
    subst (RunUndoes q c.args.offer.now.number k) (sym (c.in_err-is_whole.ensures.err ∙ is)) (run_bound q c.args.name (c.args.offer.now.number, c.args.offer.now.event.now) k c.requires.good c.requires.named c.requires.offer.compiled c.requires.binds c.requires.offer.small c.requires.below)

pub returns : goal.returns
returns c =
    let q = c.args.offer.now.plan.now in
    let k = kept c.args.run.now in
    let k' = run_with_event q c.args.name (c.args.offer.now.number, c.args.offer.now.event.now) k in
    let is : kept c.look_on.new.run ≡ k' = c.look_on.ensures ∙ ap (looking q) c.in_ok-grow.ensures.grown ∙ (λ i. looking q (grown c.args.name (c.is_consumed-consumed.ensures i) c.args.offer.now.number (c.in_ok-event.ensures.event i) k)) in
    let undoes = run_bound q c.args.name (c.args.offer.now.number, c.args.offer.now.event.now) k c.requires.good c.requires.named c.requires.offer.compiled c.requires.binds c.requires.offer.small c.requires.below in
    let now : kept c.finish.new.run ≡ run_if_complete q k' = c.in_ok-is_whole.ensures.run ∙ ap (run_if_complete q) is in
    let before = map seen c.args.list.now.items in
    let grew : Told = GrownTold k.number c.args.offer.now.number in
    record {
      run = now;
      told = c.in_ok-is_whole.ensures.told
          ∙ (λ i. (ap (map seen) c.in_ok-push.ensures.items ∙ map_push seen c.args.list.now.items _ ∙ ap (λ (n : Kept). before ++ GrownTold n.number c.args.offer.now.number ∷ []) is) i ++ told_if_complete q (is i))
          ∙ append_assoc before (grew ∷ []) (told_if_complete q k');
      complete = c.in_ok-is_whole.ensures.complete ∙ ap (λ n. is_complete q (pairs n)) is;
      shared = c.in_ok-event.ensures.shared;
      undoes = subst (RunUndoes q c.args.offer.now.number k) (sym now) (run_fate q c.args.offer.now.number k k' (run_if_complete q k').fate undoes);
    }
