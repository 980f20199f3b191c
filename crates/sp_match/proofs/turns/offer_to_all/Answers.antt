use Rattle.std.proofs.Common.{◌≡◌, ℕ, ◌<◌, List, map, length, refl, sym, ap, subst, ◌∙◌, arith}
use Rattle.std.proofs.lemmas.List.{length-map}
use Rattle.sp_plan.specs.Windows.{Numbered}
use Rattle.sp_plan.specs.Moves.{Told}
use Rattle.sp_match.specs.inside.Kept.{kept, pairs}
use Rattle.sp_match.specs.inside.Effects.{run_at}
use Rattle.sp_match.specs.public.Seen.{seen}
use Rattle.sp_match.specs.inside.Going.{Going, standing}
use Rattle.sp_match.specs.declared.turns.Reception.TheVariants.{Passed}
use Rattle.sp_match.proofs.RunsUndo.{all_stay, undoes_on}
use Rattle.sp_match.proofs.AllTurnsGoOn.{below_at_hand, going_more, going_start, pairs_at_hand}
use Rattle.sp_match.proofs.TakersTell.{told_here}
use Rattle.sp_match.proofs.QuietTurns.{turn_quiet}
use Rattle.sp_match.proofs.turns.offer_to_all.Goals as goal

pub loop-at-init : goal.loop-at-init
loop-at-init c =
    let q = c.args.offer.now.plan.now in
    let old = map kept c.args.runs.now in
    let x : Numbered = (c.args.offer.now.number, c.args.offer.now.event.now) in
    let none = ap (map seen) c.requires.none in
    record {
      going = λ s is. subst (λ (l : List Told). Going q x s old 0 old l Passed) (sym none) (going_start q x s c.requires.ready.0 old c.requires.ready.1 is);
      quiet = λ e. refl;
      shared = c.requires.shared;
      undoes = all_stay q x.0 old c.requires.ready.1.good;
    }

pub turn-requires-clause-good : goal.turn-requires-clause-good
turn-requires-clause-good c = c.loop-at.invariant.undoes.good

pub turn-requires-clause-below : goal.turn-requires-clause-below
turn-requires-clause-below c =
    let old = map kept c.args.runs.now in
    let count = c.requires.ready.0 in
    below_at_hand c.args.offer.now.plan.now (c.args.offer.now.number, c.args.offer.now.event.now) c.args.offer.now.number count c.loop-at.at old (map kept c.loop-at.runs) (map seen c.loop-at.list.items) c.loop-at.so_far c.requires.ready.1
    (omega (arith, c.loop-at-test.true, length-map c.args.runs.now kept)) (c.loop-at.invariant.going (standing count old) refl)

pub turn-requires-clause-told : goal.turn-requires-clause-told
turn-requires-clause-told c =
    let old = map kept c.args.runs.now in
    let count = c.requires.ready.0 in
    let within : c.loop-at.at < length old = omega (arith, c.loop-at-test.true, length-map c.args.runs.now kept) in
    told_here c.args.offer.now old c.loop-at.at (pairs (run_at (map kept c.loop-at.runs) c.loop-at.at)) within
    (pairs_at_hand c.args.offer.now.plan.now (c.args.offer.now.number, c.args.offer.now.event.now) c.args.offer.now.number count c.loop-at.at old (map kept c.loop-at.runs) (map seen c.loop-at.list.items) c.loop-at.so_far c.requires.ready.1
    within (c.loop-at.invariant.going (standing count old) refl)) c.requires.told

pub returns-in_err-so_far-clause-undoes : goal.returns-in_err-so_far-clause-undoes
returns-in_err-so_far-clause-undoes c =
    undoes_on c.args.offer.now.plan.now c.args.offer.now.number (map kept c.args.runs.now) (map kept c.loop-at.runs) (map kept c.turn.new.runs) c.loop-at.invariant.undoes c.in_err-so_far.ensures.undoes

pub loop-at-preserved : goal.loop-at-preserved
loop-at-preserved c =
    let q = c.args.offer.now.plan.now in
    let old = map kept c.args.runs.now in
    let x : Numbered = (c.args.offer.now.number, c.args.offer.now.event.now) in
    let within : c.loop-at.at < length old = omega (arith, c.loop-at-test.true, length-map c.args.runs.now kept) in
    record {
      going = λ s is. going_more q x s c.requires.ready.0 c.loop-at.at old (map kept c.loop-at.runs) (map kept c.turn.new.runs) (map seen c.loop-at.list.items) (map seen c.turn.new.list.items)
          c.loop-at.so_far c.in_ok-so_far.so_far c.requires.offer.compiled.names c.requires.ready.1 within c.loop-at.invariant.undoes (c.loop-at.invariant.going s is) c.in_ok-so_far.ensures.turned;
      quiet = λ e.
          let turn = turn_quiet q c.loop-at.at x (map kept c.loop-at.runs) (map kept c.turn.new.runs) (map seen c.loop-at.list.items) (map seen c.turn.new.list.items) c.loop-at.so_far c.in_ok-so_far.so_far
          c.in_ok-so_far.ensures.turned e in
          turn.1 ∙ c.loop-at.invariant.quiet turn.0;
      shared = c.in_ok-so_far.ensures.shared;
      undoes = undoes_on q x.0 old (map kept c.loop-at.runs) (map kept c.turn.new.runs) c.loop-at.invariant.undoes c.in_ok-so_far.ensures.undoes;
    }

pub returns : goal.returns
returns c =
    let q = c.args.offer.now.plan.now in
    let old = map kept c.args.runs.now in
    let x : Numbered = (c.args.offer.now.number, c.args.offer.now.event.now) in
    let end : c.loop-at.at ≡ length old = omega (arith, c.loop-at-test.false, c.loop-at.auto.at-end, length-map c.args.runs.now kept) in
    record {
      going = λ s is. subst (λ (i : ℕ). Going q x s old i (map kept c.loop-at.runs) (map seen c.loop-at.list.items) c.loop-at.so_far) end (c.loop-at.invariant.going s is);
      quiet = c.loop-at.invariant.quiet;
      shared = c.loop-at.invariant.shared;
      undoes = c.loop-at.invariant.undoes;
    }
