use Rattle.std.proofs.Common.{◌≡◌, ◌<◌, ◌∙◌, length, drop, get_or, None, refl, subst, is_some, true, false, ap, sym, arith}
use Rattle.std.proofs.lemmas.List.{drop_all}
use Rattle.sp_piece.specs.declared.job.Job.{Job}
use Rattle.sp_group.specs.Machine.{ticket_at, version_at}
use Rattle.sp_core.specs.Running.{Running}
use Rattle.sp_core.specs.Showing.{IsTreeOf}
use Rattle.sp_splitter.proofs.Stepping.{went_then}
use Rattle.sp_splitter.proofs.Clearing.{below_without, clears_itself, clears_then, ended_all, ended_gone, ended_live, ended_none, gone_now, left_all, left_gone, left_live, live_then, not_below, went_clears}
use Rattle.sp_splitter.proofs.Untouched.{guessed_kept, settled_kept, spread_out_kept, wide_kept}
use Rattle.sp_splitter.proofs.dropping.drop_stale.Goals as goal

pub loop-job-preserved-then-is_some : goal.loop-job-preserved-then-is_some
loop-job-preserved-then-is_some g c =
    let tree = subst (λ (r : Running). IsTreeOf r c.tree.result.now) c.core.ensures c.tree.ensures in
    let below = c.get.ensures.variant.0 (ap is_some c.in-Some.is) in
    let low : c.loop-job.place < length c.loop-job.kept.items = omega arith in
    let live : is_some (version_at c.args.core.now.machine.versions c.in-Some.job.now.version) ≡ true =
    ap (λ (j : Job). is_some (version_at c.args.core.now.machine.versions j.version)) (sym c.job.ensures)
    ∙ live_then c.args.core.now c.loop-job.core c.tree.result.now c.job.result.now.version c.get-in-Some.result c.loop-job.invariant.clears tree c.get-in-Some.ensures
    ∙ sym c.is_some.ensures ∙ c.if-is_some.true in
    record {
      clears = c.loop-job.invariant.clears;
      left = left_live c.args.core.now c.args.kept.now.items c.loop-job.kept.items c.loop-job.place c.in-Some.job.now low c.in-Some.ensures.lookup live c.loop-job.invariant.left;
      ended = ended_live c.args.core.now c.loop-job.core c.args.kept.now.items c.loop-job.kept.items c.loop-job.place c.in-Some.job.now low c.in-Some.ensures.lookup live c.loop-job.invariant.ended;
      within = omega arith;
      rising = c.loop-job.invariant.rising;
    }

pub give_back_unread-requires : goal.give_back_unread-requires
give_back_unread-requires g c =
    let tree = subst (λ (r : Running). IsTreeOf r c.tree.result.now) c.core.ensures c.tree.ensures in
    let below = c.get.ensures.variant.0 (ap is_some c.in-Some.is) in
    let low : c.loop-job.place < length c.loop-job.kept.items = omega arith in
    let found = c.remove.ensures.succeeds c.in-Some.job.now below in
    let lookup : c.in-Some.job.now ≡ get_or c.loop-job.kept.items c.loop-job.place c.in-Some.job.now = c.in-Some.ensures.lookup in
    let same : c.in-Some-remove.job ≡ c.in-Some.job.now = cc in
    record {
      gone = subst (λ (j : Job). version_at c.loop-job.core.machine.versions j.version ≡ None) (c.job.ensures ∙ sym same)
          (gone_now c.loop-job.core c.tree.result.now c.job.result.now.version c.get-in-Some.result tree c.get-in-Some.ensures (sym c.is_some.ensures ∙ c.if-is_some.false));
    }

pub loop-job-preserved-in-Continue-1 : goal.loop-job-preserved-in-Continue-1
loop-job-preserved-in-Continue-1 g c =
    let tree = subst (λ (r : Running). IsTreeOf r c.tree.result.now) c.core.ensures c.tree.ensures in
    let below = c.get.ensures.variant.0 (ap is_some c.in-Some.is) in
    let low : c.loop-job.place < length c.loop-job.kept.items = omega arith in
    let gone : is_some (version_at c.args.core.now.machine.versions c.in-Some.job.now.version) ≡ false =
    ap (λ (j : Job). is_some (version_at c.args.core.now.machine.versions j.version)) (sym c.job.ensures)
    ∙ live_then c.args.core.now c.loop-job.core c.tree.result.now c.job.result.now.version c.get-in-Some.result c.loop-job.invariant.clears tree c.get-in-Some.ensures
    ∙ sym c.is_some.ensures ∙ c.if-is_some.false in
    let items = c.in-Some-remove.ensures.items in
    let found = c.remove.ensures.succeeds c.in-Some.job.now below in
    let lookup : c.in-Some.job.now ≡ get_or c.loop-job.kept.items c.loop-job.place c.in-Some.job.now = c.in-Some.ensures.lookup in
    let same : c.in-Some-remove.job ≡ c.in-Some.job.now = cc in
    let none = subst (λ (j : Job). ticket_at c.give_back_unread.new.core.machine.tickets j.ticket ≡ None) same c.in_ok-give_back_unread.ensures.ended in
    record {
      clears = clears_then c.args.core.now c.loop-job.core c.give_back_unread.new.core c.loop-job.invariant.clears c.in_ok-give_back_unread.ensures.clears;
      left = rw items (left_gone c.args.core.now c.args.kept.now.items c.loop-job.kept.items c.loop-job.place c.in-Some.job.now low c.in-Some.ensures.lookup gone c.loop-job.invariant.left);
      ended = rw items (ended_gone c.args.core.now c.loop-job.core c.give_back_unread.new.core c.args.kept.now.items c.loop-job.kept.items c.loop-job.place c.in-Some.job.now
          low c.in-Some.ensures.lookup gone c.in_ok-give_back_unread.ensures.clears none c.loop-job.invariant.ended);
      within = let shorter = c.in-Some-remove.ensures.len in omega arith;
      rising = λ last next below. rw items (below_without last next c.loop-job.kept.items c.loop-job.place (c.loop-job.invariant.rising last next below));
    }

pub returns-in_err-give_back_unread-clause-went : goal.returns-in_err-give_back_unread-clause-went
returns-in_err-give_back_unread-clause-went g c =
    λ n batch. went_then n batch c.args.core.now c.loop-job.core c.give_back_unread.new.core (c.loop-job.invariant.clears.goes n)
    (went_clears n batch c.args.core.now c.loop-job.core c.loop-job.invariant.clears) (c.give_back_unread.ensures.went n batch)

pub returns-in_err-give_back_unread-clause-rising : goal.returns-in_err-give_back_unread-clause-rising
returns-in_err-give_back_unread-clause-rising g c =
    let next = c.give_back_unread.ensures.next ∙ c.loop-job.invariant.clears.next_ticket in
    λ last below. rw (c.in-Some-remove.ensures.items, next)
    (below_without last c.args.core.now.machine.next_ticket c.loop-job.kept.items c.loop-job.place (c.loop-job.invariant.rising last c.args.core.now.machine.next_ticket below))

pub returns-clause-went : goal.returns-clause-went
returns-clause-went g c = λ n batch. went_clears n batch c.args.core.now c.loop-job.core c.loop-job.invariant.clears

pub returns-clause-settled : goal.returns-clause-settled
returns-clause-settled g c = settled_kept c.args.core.now c.loop-job.core c.loop-job.invariant.clears.keeps c.requires.settled

pub returns-clause-guessed : goal.returns-clause-guessed
returns-clause-guessed g c = λ m share. guessed_kept c.args.core.now c.loop-job.core m share c.loop-job.invariant.clears.keeps

pub returns-clause-wide : goal.returns-clause-wide
returns-clause-wide g c = λ share n. wide_kept share n c.args.core.now c.loop-job.core c.loop-job.invariant.clears.keeps

pub returns-clause-spread_out : goal.returns-clause-spread_out
returns-clause-spread_out g c = λ n. spread_out_kept n c.args.core.now c.loop-job.core c.loop-job.invariant.clears.keeps

pub returns-clause-dropped : goal.returns-clause-dropped
returns-clause-dropped g c =
    let clears = c.loop-job.invariant.clears in
    let high = not_below c.loop-job.place c.loop-job.kept.len c.in_default.ensures.variant.1 in
    record {
      back = clears.back;
      are = clears.are;
      ended = ended_all c.args.core.now c.loop-job.core c.args.kept.now.items (drop c.loop-job.place c.loop-job.kept.items)
          (drop_all c.loop-job.place c.loop-job.kept.items (omega arith)) c.loop-job.invariant.ended;
      others = left_all c.args.core.now c.args.kept.now.items c.loop-job.kept.items c.loop-job.place (omega arith) c.loop-job.invariant.left;
    }

pub loop-job-preserved : goal.loop-job-preserved
loop-job-preserved g c =
    let below = c.get.ensures.variant.0 (ap is_some c.in-Some.is) in
    let low : c.loop-job.place < length c.loop-job.kept.items = omega arith in
    let found = c.remove.ensures.succeeds c.in-Some.job.now below in
    absurd (cc)

pub loop-job-init : goal.loop-job-init
loop-job-init g c = record {
  clears = clears_itself c.args.core.now;
  left = refl;
  ended = ended_none c.args.core.now c.args.kept.now.items;
  within = omega arith;
  rising = λ last next below. below;
}
