use Rattle.std.proofs.Common.{ℕ, ◌≤◌, List, take, get_or, sym, ap, ◌∙◌, subst, arith}
use Rattle.std.proofs.lemmas.List.{take_all, take_more}
use Rattle.sp_group.specs.declared.step.Step.TheVariants as s
use Rattle.sp_core.specs.Running.{IsDone, Running}
use Rattle.sp_splitter.specs.Keeping.{Lends}
use Rattle.sp_splitter.specs.Lending.{asked}
use Rattle.sp_splitter.proofs.Leasing.{below_after, kept_more, lends_itself, lends_more, next_passes}
use Rattle.sp_splitter.proofs.lending.lend_all.Goals as goal

pub lend_one-requires-clause-passes : goal.lend_one-requires-clause-passes
lend_one-requires-clause-passes g c =
    next_passes c.args.asking.most c.args.ids.now c.loop-id.id-index 0 c.asked-count.result c.args.core.now c.loop-id.core c.loop-id-test.true c.requires.apart c.requires.ready c.loop-id.invariant.lends

pub loop-id-init : goal.loop-id-init
loop-id-init g c = record {
  lends = lends_itself c.args.asking.shy c.args.asking.most c.args.core.now;
  kept = omega arith;
  rising = λ last below. below;
}

pub loop-id-preserved : goal.loop-id-preserved
loop-id-preserved g c =
    let id = get_or c.args.ids.now c.loop-id.id-index 0 in
    let count : ℕ = c.asked-count.result in
    let as_told = c.asked-count.ensures.count ∙ ap (λ (z : Running). asked c.args.asking.shy c.args.asking.most z id) c.core.ensures in
    let passes = next_passes c.args.asking.most c.args.ids.now c.loop-id.id-index 0 count c.args.core.now c.loop-id.core c.loop-id-test.true c.requires.apart c.requires.ready c.loop-id.invariant.lends in
    let done : IsDone (s.Lease id count) c.loop-id.core c.lend_one.new.core = (passes, c.in_ok-lend_one.ensures.leased) in
    let as_asked : IsDone (s.Lease id (asked c.args.asking.shy c.args.asking.most c.loop-id.core id)) c.loop-id.core c.lend_one.new.core =
    subst (λ (n : ℕ). IsDone (s.Lease id n) c.loop-id.core c.lend_one.new.core) as_told done in
    record {
      lends = subst (λ (ids : List ℕ). Lends c.args.asking.shy c.args.asking.most ids c.args.core.now c.lend_one.new.core) (sym (take_more c.args.ids.now c.loop-id.id-index 0 c.loop-id-test.true))
          (lends_more c.args.asking.shy c.args.asking.most id (take c.loop-id.id-index c.args.ids.now) c.args.core.now c.loop-id.core c.lend_one.new.core c.known.ensures c.loop-id.invariant.lends as_asked
          (subst (λ (n : ℕ). n ≤ c.args.asking.most) as_told c.asked-count.ensures.most));
      kept = kept_more c.loop-id.core.machine.next_ticket c.args.kept.now.items c.loop-id.kept.items c.lend_one.new.kept.items c.loop-id.id-index
          c.in_ok-lend_one.ensures.kept c.loop-id.invariant.kept;
      rising = λ last below.
          below_after last id count c.loop-id.core c.lend_one.new.core c.loop-id.kept.items c.lend_one.new.kept.items done c.in_ok-lend_one.ensures.kept
          (c.loop-id.invariant.rising last below);
    }

pub returns-in_err-lend_one-clause-part : goal.returns-in_err-lend_one-clause-part
returns-in_err-lend_one-clause-part g c = (
  c.loop-id.id-index,
  subst (λ (z : Running). Lends c.args.asking.shy c.args.asking.most (take c.loop-id.id-index c.args.ids.now) c.args.core.now z)
      (sym c.in_err-lend_one.ensures.err) c.loop-id.invariant.lends,
)

pub returns-in_err-lend_one-clause-rising : goal.returns-in_err-lend_one-clause-rising
returns-in_err-lend_one-clause-rising g c =
    let next = ap (λ (z : Running). z.machine.next_ticket) c.in_err-lend_one.ensures.err in
    λ last below. rw (c.in_err-lend_one.ensures.kept_err, next) (c.loop-id.invariant.rising last below)

pub returns-clause-lends : goal.returns-clause-lends
returns-clause-lends g c =
    subst (λ (ids : List ℕ). Lends c.args.asking.shy c.args.asking.most ids c.args.core.now c.loop-id.core) (take_all c.loop-id.id-index c.args.ids.now (omega arith)) c.loop-id.invariant.lends

pub returns-clause-part : goal.returns-clause-part
returns-clause-part g c = (c.loop-id.id-index, c.loop-id.invariant.lends)
