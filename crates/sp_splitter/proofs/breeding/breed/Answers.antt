use Rattle.std.proofs.Common.{◌≡◌, ℕ, subst, sym, arith}
use Rattle.std.proofs.lemmas.Bool.Decides.{when_false, when_true}
use Rattle.sp_chance.specs.Shares.{share_of}
use Rattle.sp_core.specs.Running.{Running}
use Rattle.sp_spread.specs.Counting.{busy_count}
use Rattle.sp_splitter.specs.Bearing.{HasBorn, IsBarren}
use Rattle.sp_splitter.specs.Stages.{NoneEmitted, NoneRead, Went}
use Rattle.sp_splitter.proofs.Bred.{Ended, bred_first, bred_more, ended_barren, ended_busy}
use Rattle.sp_splitter.proofs.breeding.breed.Goals as goal

barren : (g : _) (c : goal.Then-not-branch g) → Ended (share_of c.args.chances.now) c.args.instances c.args.core.now c.bear_best.new.core
barren g c =
    ended_barren (share_of c.args.chances.now) c.args.instances c.args.core.now c.loop-busy.core c.bear_best.new.core c.loop-busy.busy c.loop-busy.invariant
    (when_false (HasBorn (share_of c.args.chances.now) c.loop-busy.core c.bear_best.new.core) (IsBarren (share_of c.args.chances.now) c.loop-busy.core c.bear_best.new.core) c.if-not-branch.true
    c.in_ok-bear_best.ensures.born)

pub loop-busy-init : goal.loop-busy-init
loop-busy-init g c =
    bred_first (share_of c.args.chances.now) c.args.instances c.args.core.now c.in_ok-busy.busy c.known.ensures c.requires.settled
    (subst (λ (z : Running). c.in_ok-busy.busy ≡ busy_count z.plan z.bound z.machine) c.core.ensures c.in_ok-busy.ensures)

pub returns-in_err-bear_best-clause-went : goal.returns-in_err-bear_best-clause-went
returns-in_err-bear_best-clause-went g c n batch = subst (λ (z : Running). Went n batch c.args.core.now z) (sym c.in_err-bear_best.ensures.err) (c.loop-busy.invariant.went n batch)

pub returns-in_err-bear_best-clause-emitted : goal.returns-in_err-bear_best-clause-emitted
returns-in_err-bear_best-clause-emitted g c = subst (λ (z : Running). NoneEmitted c.args.core.now z) (sym c.in_err-bear_best.ensures.err) c.loop-busy.invariant.emitted

pub returns-in_err-bear_best-clause-read : goal.returns-in_err-bear_best-clause-read
returns-in_err-bear_best-clause-read g c = subst (λ (z : Running). NoneRead c.args.core.now z) (sym c.in_err-bear_best.ensures.err) c.loop-busy.invariant.read

pub loop-busy-smaller : goal.loop-busy-smaller
loop-busy-smaller g c = let low = c.loop-busy-test.true in omega arith

pub loop-busy-preserved : goal.loop-busy-preserved
loop-busy-preserved g c =
    let shares : ℕ → ℕ → ℕ = share_of c.args.chances.now in
    let before : Running = c.loop-busy.core in
    let new : Running = c.bear_best.new.core in
    let born : HasBorn shares before new = when_true (HasBorn shares before new) (IsBarren shares before new) c.if-not-branch.false c.in_ok-bear_best.ensures.born in
    bred_more shares c.args.instances c.args.core.now before new c.loop-busy.busy c.loop-busy.invariant c.known-in-loop-busy.ensures c.loop-busy-test.true born

pub returns-then-not-branch-clause-went : goal.returns-then-not-branch-clause-went
returns-then-not-branch-clause-went g c = (barren g c).went

pub returns-clause-went : goal.returns-clause-went
returns-clause-went g c =
    (ended_busy (share_of c.args.chances.now) c.args.instances c.args.core.now c.loop-busy.core c.loop-busy.busy c.loop-busy.invariant c.loop-busy-test.false).went

pub returns-then-not-branch-clause-goes : goal.returns-then-not-branch-clause-goes
returns-then-not-branch-clause-goes g c = (barren g c).goes

pub returns-clause-goes : goal.returns-clause-goes
returns-clause-goes g c =
    (ended_busy (share_of c.args.chances.now) c.args.instances c.args.core.now c.loop-busy.core c.loop-busy.busy c.loop-busy.invariant c.loop-busy-test.false).goes

pub returns-then-not-branch-clause-emitted : goal.returns-then-not-branch-clause-emitted
returns-then-not-branch-clause-emitted g c = (barren g c).emitted

pub returns-clause-emitted : goal.returns-clause-emitted
returns-clause-emitted g c =
    (ended_busy (share_of c.args.chances.now) c.args.instances c.args.core.now c.loop-busy.core c.loop-busy.busy c.loop-busy.invariant c.loop-busy-test.false).emitted

pub returns-then-not-branch-clause-read : goal.returns-then-not-branch-clause-read
returns-then-not-branch-clause-read g c = (barren g c).read

pub returns-clause-read : goal.returns-clause-read
returns-clause-read g c =
    (ended_busy (share_of c.args.chances.now) c.args.instances c.args.core.now c.loop-busy.core c.loop-busy.busy c.loop-busy.invariant c.loop-busy-test.false).read

pub returns-then-not-branch-clause-settled : goal.returns-then-not-branch-clause-settled
returns-then-not-branch-clause-settled g c = (barren g c).settled

pub returns-clause-settled : goal.returns-clause-settled
returns-clause-settled g c =
    (ended_busy (share_of c.args.chances.now) c.args.instances c.args.core.now c.loop-busy.core c.loop-busy.busy c.loop-busy.invariant c.loop-busy-test.false).settled

pub returns-then-not-branch-clause-guessed : goal.returns-then-not-branch-clause-guessed
returns-then-not-branch-clause-guessed g c = (barren g c).guessed

pub returns-clause-guessed : goal.returns-clause-guessed
returns-clause-guessed g c =
    (ended_busy (share_of c.args.chances.now) c.args.instances c.args.core.now c.loop-busy.core c.loop-busy.busy c.loop-busy.invariant c.loop-busy-test.false).guessed

pub returns-then-not-branch-clause-bred : goal.returns-then-not-branch-clause-bred
returns-then-not-branch-clause-bred g c = (barren g c).breeds

pub returns-clause-bred : goal.returns-clause-bred
returns-clause-bred g c =
    (ended_busy (share_of c.args.chances.now) c.args.instances c.args.core.now c.loop-busy.core c.loop-busy.busy c.loop-busy.invariant c.loop-busy-test.false).breeds

pub returns-then-not-branch-clause-wide : goal.returns-then-not-branch-clause-wide
returns-then-not-branch-clause-wide g c = (barren g c).wide

pub returns-clause-wide : goal.returns-clause-wide
returns-clause-wide g c =
    (ended_busy (share_of c.args.chances.now) c.args.instances c.args.core.now c.loop-busy.core c.loop-busy.busy c.loop-busy.invariant c.loop-busy-test.false).wide

pub returns-then-not-branch-clause-spread_out : goal.returns-then-not-branch-clause-spread_out
returns-then-not-branch-clause-spread_out g c = (barren g c).spread_out

pub returns-clause-spread_out : goal.returns-clause-spread_out
returns-clause-spread_out g c =
    (ended_busy (share_of c.args.chances.now) c.args.instances c.args.core.now c.loop-busy.core c.loop-busy.busy c.loop-busy.invariant c.loop-busy-test.false).spread_out
