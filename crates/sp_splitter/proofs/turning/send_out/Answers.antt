use Rattle.sp_chance.specs.Shares.{share_of}
use Rattle.sp_splitter.proofs.Below.{below_later}
use Rattle.sp_splitter.proofs.Stepping.{went_then}
use Rattle.sp_splitter.proofs.turning.send_out.Goals as goal

pub returns-in_err-breed-clause-went : goal.returns-in_err-breed-clause-went
returns-in_err-breed-clause-went g c = c.breed.ensures.went c.args.instances c.args.asking.most

pub returns-in_err-breed-clause-rising : goal.returns-in_err-breed-clause-rising
returns-in_err-breed-clause-rising g c = λ last below.
    below_later last c.args.kept.now.items c.args.core.now.machine.next_ticket c.breed.new.core.machine.next_ticket (c.breed.ensures.went c.args.instances c.args.asking.most).tickets below

pub returns-in_err-drop_stale-clause-went : goal.returns-in_err-drop_stale-clause-went
returns-in_err-drop_stale-clause-went g c =
    let n = c.args.instances in
    let batch = c.args.asking.most in
    went_then n batch c.args.core.now c.breed.new.core c.drop_stale.new.core (c.in_ok-breed.ensures.goes n) (c.breed.ensures.went n batch) (c.drop_stale.ensures.went n batch)

pub returns-in_err-drop_stale-clause-rising : goal.returns-in_err-drop_stale-clause-rising
returns-in_err-drop_stale-clause-rising g c = λ last below.
    c.drop_stale.ensures.rising last
    (below_later last c.args.kept.now.items c.args.core.now.machine.next_ticket c.breed.new.core.machine.next_ticket (c.breed.ensures.went c.args.instances c.args.asking.most).tickets below)

pub lend-requires-clause-spread_out : goal.lend-requires-clause-spread_out
lend-requires-clause-spread_out g c = c.in_ok-drop_stale.ensures.spread_out c.args.instances c.in_ok-breed.ensures.spread_out

pub returns-in_err-lend-clause-went : goal.returns-in_err-lend-clause-went
returns-in_err-lend-clause-went g c =
    let n = c.args.instances in
    let batch = c.args.asking.most in
    went_then n batch c.args.core.now c.breed.new.core c.lend.new.core (c.in_ok-breed.ensures.goes n) (c.breed.ensures.went n batch)
    (went_then n batch c.breed.new.core c.drop_stale.new.core c.lend.new.core (c.in_ok-drop_stale.ensures.goes n) (c.drop_stale.ensures.went n batch) c.lend.ensures.went)

pub returns-in_err-lend-clause-rising : goal.returns-in_err-lend-clause-rising
returns-in_err-lend-clause-rising g c = λ last below.
    c.lend.ensures.rising last (c.drop_stale.ensures.rising last
    (below_later last c.args.kept.now.items c.args.core.now.machine.next_ticket c.breed.new.core.machine.next_ticket (c.breed.ensures.went c.args.instances c.args.asking.most).tickets below))

pub returns-clause-went : goal.returns-clause-went
returns-clause-went g c =
    let n = c.args.instances in
    let batch = c.args.asking.most in
    went_then n batch c.args.core.now c.breed.new.core c.lend.new.core (c.in_ok-breed.ensures.goes n) (c.breed.ensures.went n batch)
    (went_then n batch c.breed.new.core c.drop_stale.new.core c.lend.new.core (c.in_ok-drop_stale.ensures.goes n) (c.drop_stale.ensures.went n batch) c.lend.ensures.went)

pub returns-clause-guessed : goal.returns-clause-guessed
returns-clause-guessed g c = λ m guessed.
    c.in_ok-lend.ensures.guessed m (share_of c.args.chances.now)
    (c.in_ok-drop_stale.ensures.guessed m (share_of c.args.chances.now) (c.in_ok-breed.ensures.guessed m guessed))

pub returns-clause-wide : goal.returns-clause-wide
returns-clause-wide g c =
    let share = share_of c.args.chances.now in
    c.in_ok-lend.ensures.wide share c.args.instances (c.in_ok-drop_stale.ensures.wide share c.args.instances c.in_ok-breed.ensures.wide)

pub returns-clause-rising : goal.returns-clause-rising
returns-clause-rising g c = λ last below.
    c.lend.ensures.rising last (c.drop_stale.ensures.rising last
    (below_later last c.args.kept.now.items c.args.core.now.machine.next_ticket c.breed.new.core.machine.next_ticket (c.breed.ensures.went c.args.instances c.args.asking.most).tickets below))
