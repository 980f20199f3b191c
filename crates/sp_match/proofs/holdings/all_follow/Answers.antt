use Rattle.std.proofs.Common.{◌≡◌, ℕ, ◌+◌, ◌-◌, ◌<◌, ◌≤◌, min, true, List, [], ◌++◌, map, length, take, drop, get_or, sym, ap, subst, ◌∙◌, inl, inr, arith}
use Rattle.std.specs.Prelude.{nat_lt}
use Rattle.std.proofs.lemmas.Bool.{cases_eq}
use Rattle.std.proofs.lemmas.Bool.Decides.{nat_tests}
use Rattle.std.proofs.lemmas.List.{append-nil, drop_all, get_or_default, length-append, length-drop, length-map, length-take, take_all}
use Rattle.sp_plan.specs.Runs.{Pair}
use Rattle.sp_match.specs.declared.run.Run.{Run}
use Rattle.sp_match.specs.inside.Kept.{Kept, empty, kept, pairs}
use Rattle.sp_match.specs.inside.Effects.{run_at}
use Rattle.sp_match.specs.inside.Going.{IsIdle}
use Rattle.sp_match.specs.inside.Good.{Good}
use Rattle.sp_match.specs.inside.Takers.{AreAlike, AreHeld, GoesOn, run_in}
use Rattle.sp_match.proofs.RunsAreHeld.{pairs_at}
use Rattle.sp_match.proofs.RunsFollow.{more_follow, still_ahead, was_alike}
use Rattle.sp_match.proofs.RunsUndo.{good_here, here}
use Rattle.sp_match.proofs.holdings.all_follow.Goals as goal

below_count : (at count : ℕ) → nat_lt at count ≡ true → at < count
below_count at count is = grind (arith, nat_tests)

pub follow-requires-clause-good : goal.follow-requires-clause-good
follow-requires-clause-good c =
    subst (λ (r : Run). Good c.args.offer.now.plan.now (kept r)) (sym c.index-runs-at.is) (good_here c.args.offer.now.plan.now c.args.runs.now c.loop-at.at c.index-runs-at.result c.loop-at-test.true c.requires.good)

pub follow-requires-clause-held : goal.follow-requires-clause-held
follow-requires-clause-held c =
    let q = c.args.offer.now.plan.now in
    let n = c.args.offer.now.number in
    let ks = map kept c.args.runs.now in
    let old = c.requires.was.1 in
    let grown = c.requires.was.2 in
    let rs = map pairs old in
    let long : c.args.count ≤ length ks = omega (arith, c.if-runs-count.false, length-map c.args.runs.now kept) in
    (take c.loop-at.at (map pairs ks) ++ drop c.loop-at.at rs, c.loop-at.invariant.held rs c.requires.was.3 (length-map old pairs ∙ grown.size) (was_alike q n c.args.count c.requires.was.0 old ks grown long))

pub loop-at-preserved : goal.loop-at-preserved
loop-at-preserved c =
    let q = c.args.offer.now.plan.now in
    let n = c.args.offer.now.number in
    let runs = c.args.runs.now in
    let ks = map kept runs in
    let ps = map pairs ks in
    let at = c.loop-at.at in
    let d = c.index-runs-at.result in
    let r = pairs (kept d) in
    let inside : at < length ps = omega (arith, c.loop-at-test.true, length-map ks pairs, length-map runs kept) in
    let own : run_at ks at ≡ kept d = here runs at d c.loop-at-test.true ∙ ap kept (sym c.index-runs-at.is) in
    let is : r ≡ get_or ps at [] = sym (pairs_at runs at d c.loop-at-test.true c.index-runs-at.is) in record {
      idle = λ i below. elim (cases_eq i at) as (λ _. IsIdle (run_at ks i)) [
        | inl same ↦ subst IsIdle (sym (ap (run_at ks) same ∙ own)) (c.follow.ensures.idle c.if-not-follow.false)
        | inr apart ↦ c.loop-at.invariant.idle i (omega (arith, below, apart))
      ];
      held = λ rs was size alike.
          let mixed = take at ps ++ drop at rs in
          let long : length mixed ≡ length (take at ps) + length (drop at rs) = length-append (take at ps) (drop at rs) in
          let front : length (take at ps) ≡ min at (length ps) = length-take at ps in
          let rest : length (drop at rs) ≡ length rs - at = length-drop at rs in
          let so : nat_lt at c.args.count ≡ true → GoesOn q n (kept d) → (at < length mixed) × AreAlike q (run_in mixed at) r = λ old on.
          let below : at < c.args.count = below_count at c.args.count old in
          let before : AreAlike q (run_in rs at) (pairs (run_at ks at)) = alike at below (subst (GoesOn q n) (sym own) on) in (
            omega (arith, long, front, rest, size, below, inside),
            subst (λ (s : List Pair). AreAlike q s r) (sym (still_ahead ps rs at [] (omega (arith, inside)))) (subst (λ (k : Kept). AreAlike q (run_in rs at) (pairs k)) own before),
          ) in
          subst (λ (l : List (List Pair)). AreHeld q l c.follow.new.held) (more_follow ps rs at r [] inside is)
          (c.follow.ensures.held mixed (c.loop-at.invariant.held rs was size alike) (omega (arith, long, front, inside)) so c.if-not-follow.false);
    }

pub returns-clause-idle : goal.returns-clause-idle
returns-clause-idle c = λ so k d within.
    let ks = map kept c.args.runs.now in
    subst IsIdle (get_or_default ks k (empty 0) d within) (c.loop-at.invariant.idle k (omega (arith, within, length-map c.args.runs.now kept, c.loop-at-test.false)))

pub returns-clause-held : goal.returns-clause-held
returns-clause-held c = λ so.
    let q = c.args.offer.now.plan.now in
    let n = c.args.offer.now.number in
    let ks = map kept c.args.runs.now in
    let ps = map pairs ks in
    let at = c.loop-at.at in
    let old = c.requires.was.1 in
    let grown = c.requires.was.2 in
    let rs = map pairs old in
    let long : c.args.count ≤ length ks = omega (arith, c.if-runs-count.false, length-map c.args.runs.now kept) in
    let size : length rs ≡ c.args.count = length-map old pairs ∙ grown.size in
    let all : length ps ≤ at = omega (arith, c.loop-at-test.false, length-map ks pairs, length-map c.args.runs.now kept) in
    let none : length rs ≤ at = omega (arith, size, long, all, length-map ks pairs) in
    let whole : take at ps ++ drop at rs ≡ ps = (λ i. take_all at ps all i ++ drop_all at rs none i) ∙ append-nil ps in
    subst (λ (l : List (List Pair)). AreHeld q l c.loop-at.held) whole (c.loop-at.invariant.held rs c.requires.was.3 size (was_alike q n c.args.count c.requires.was.0 old ks grown long))
