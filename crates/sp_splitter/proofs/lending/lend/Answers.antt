use Rattle.std.proofs.Common.{◌≡◌, ℕ, ◌+◌, length, subst, sym}
use Rattle.std.proofs.lemmas.Result.{IfOk-weaker}
use Rattle.sp_chance.specs.Shares.{share_of}
use Rattle.sp_group.specs.Steps.{IsLentOut, out_count}
use Rattle.sp_spread.specs.Calm.{Settled}
use Rattle.sp_spread.specs.Guessing.{AreGuessed}
use Rattle.sp_splitter.specs.Breeding.{IsWide}
use Rattle.sp_splitter.specs.Keeping.{AreApart, Lends}
use Rattle.sp_splitter.specs.Lending.{Leases}
use Rattle.sp_splitter.specs.Stages.{Goes}
use Rattle.sp_splitter.proofs.Places.{both_ok, goes_lends, kept_lends, kept_part, leases_picked, lent_picked, picked_few, picked_told, went_part}
use Rattle.sp_splitter.proofs.Untouched.{guessed_kept, settled_kept, wide_kept}
use Rattle.sp_splitter.proofs.lending.lend.Goals as goal

pub lend_all-requires-clause-apart : goal.lend_all-requires-clause-apart
lend_all-requires-clause-apart g c = subst AreApart (sym c.deref.ensures.value) c.in_ok-ids.ensures.apart

pub returns-clause-went : goal.returns-clause-went
returns-clause-went g c =
    let ids = c.deref.result.now in
    let picked = picked_told (share_of c.args.chances.now) c.args.instances c.core.result.now c.args.core.now c.in_ok-ids.ids.items c.deref.result.now
    c.core.ensures c.deref.ensures.value c.in_ok-ids.ensures.picked in
    went_part c.args.instances c.args.asking.most ids c.args.core.now c.lend_all.new.core c.requires.spread_out
    (picked_few (share_of c.args.chances.now) c.args.instances c.args.core.now ids picked) c.lend_all.ensures.part

pub returns-clause-emitted : goal.returns-clause-emitted
returns-clause-emitted g c = (kept_part c.args.asking.most c.deref.result.now c.args.core.now c.lend_all.new.core c.lend_all.ensures.part).emitted

pub returns-clause-read : goal.returns-clause-read
returns-clause-read g c = (kept_part c.args.asking.most c.deref.result.now c.args.core.now c.lend_all.new.core c.lend_all.ensures.part).read

pub returns-clause-goes : goal.returns-clause-goes
returns-clause-goes g c =
    let picked = picked_told (share_of c.args.chances.now) c.args.instances c.core.result.now c.args.core.now c.in_ok-ids.ids.items c.deref.result.now
    c.core.ensures c.deref.ensures.value c.in_ok-ids.ensures.picked in
    IfOk-weaker c.lend_all.result (λ _. Lends c.args.asking.shy c.args.asking.most c.deref.result.now c.args.core.now c.lend_all.new.core)
    (λ _. Goes c.args.instances c.args.core.now c.lend_all.new.core)
    (λ _ lends. goes_lends (share_of c.args.chances.now) c.args.instances c.args.asking.most c.deref.result.now c.args.core.now c.lend_all.new.core c.requires.spread_out picked lends) c.lend_all.ensures.lends

pub returns-clause-settled : goal.returns-clause-settled
returns-clause-settled g c =
    IfOk-weaker c.lend_all.result (λ _. Lends c.args.asking.shy c.args.asking.most c.deref.result.now c.args.core.now c.lend_all.new.core)
    (λ _. Settled c.lend_all.new.core.plan c.lend_all.new.core.machine)
    (λ _ lends. settled_kept c.args.core.now c.lend_all.new.core lends.keeps c.requires.settled) c.lend_all.ensures.lends

pub returns-clause-guessed : goal.returns-clause-guessed
returns-clause-guessed g c =
    IfOk-weaker c.lend_all.result (λ _. Lends c.args.asking.shy c.args.asking.most c.deref.result.now c.args.core.now c.lend_all.new.core)
    (λ _. (m share : ℕ → ℕ → ℕ) → AreGuessed c.args.core.now.plan c.args.core.now.machine m share → AreGuessed c.lend_all.new.core.plan c.lend_all.new.core.machine m share)
    (λ _ lends. λ m share. guessed_kept c.args.core.now c.lend_all.new.core m share lends.keeps) c.lend_all.ensures.lends

pub returns-clause-wide : goal.returns-clause-wide
returns-clause-wide g c =
    IfOk-weaker c.lend_all.result (λ _. Lends c.args.asking.shy c.args.asking.most c.deref.result.now c.args.core.now c.lend_all.new.core)
    (λ _. (share : ℕ → ℕ → ℕ) (n : ℕ) → IsWide share n c.args.core.now → IsWide share n c.lend_all.new.core)
    (λ _ lends. λ share n. wide_kept share n c.args.core.now c.lend_all.new.core lends.keeps) c.lend_all.ensures.lends

pub returns-clause-lent : goal.returns-clause-lent
returns-clause-lent g c =
    let picked = picked_told (share_of c.args.chances.now) c.args.instances c.core.result.now c.args.core.now c.in_ok-ids.ids.items c.deref.result.now
    c.core.ensures c.deref.ensures.value c.in_ok-ids.ensures.picked in
    IfOk-weaker c.lend_all.result (λ _. Lends c.args.asking.shy c.args.asking.most c.deref.result.now c.args.core.now c.lend_all.new.core)
    (λ _. IsLentOut c.lend_all.new.core.plan c.lend_all.new.core.bound c.args.instances c.lend_all.new.core.machine)
    (λ _ lends. lent_picked (share_of c.args.chances.now) c.args.instances c.args.asking.most c.deref.result.now c.args.core.now c.lend_all.new.core picked lends) c.lend_all.ensures.lends

pub returns-clause-leases : goal.returns-clause-leases
returns-clause-leases g c =
    let picked = picked_told (share_of c.args.chances.now) c.args.instances c.core.result.now c.args.core.now c.in_ok-ids.ids.items c.deref.result.now
    c.core.ensures c.deref.ensures.value c.in_ok-ids.ensures.picked in
    IfOk-weaker c.lend_all.result (λ _. Lends c.args.asking.shy c.args.asking.most c.deref.result.now c.args.core.now c.lend_all.new.core)
    (λ _. Leases (share_of c.args.chances.now) c.args.instances c.args.asking.most c.args.core.now c.lend_all.new.core)
    (λ _ lends. leases_picked (share_of c.args.chances.now) c.args.instances c.args.asking.most c.deref.result.now c.args.core.now c.lend_all.new.core picked lends) c.lend_all.ensures.lends

pub returns-clause-kept : goal.returns-clause-kept
returns-clause-kept g c =
    both_ok c.lend_all.result (Lends c.args.asking.shy c.args.asking.most c.deref.result.now c.args.core.now c.lend_all.new.core)
    (length c.lend_all.new.kept.items ≡ length c.args.kept.now.items + length c.deref.result.now)
    (length c.lend_all.new.kept.items + out_count c.args.core.now.machine ≡ length c.args.kept.now.items + out_count c.lend_all.new.core.machine)
    (kept_lends c.args.asking.most (length c.args.kept.now.items) (length c.lend_all.new.kept.items) c.deref.result.now c.args.core.now c.lend_all.new.core)
    c.lend_all.ensures.lends c.lend_all.ensures.kept
