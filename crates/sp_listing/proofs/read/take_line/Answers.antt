use Rattle.std.proofs.Common.{◌≡◌, ◌+◌, ◌-◌, ap, length, List, arith, vec_len}
use Rattle.std.proofs.lemmas.Option.{MatchOption-at_some}
use Rattle.sp_plan.specs.declared.found.Match.{Match}
use Rattle.sp_listing.specs.Listing.{Entry, seen}
use Rattle.sp_listing.proofs.Going.{adds_window, adds_found}
use Rattle.sp_listing.proofs.read.take_line.Goals as goal

pub returns-in-Some-clause-taken : goal.returns-in-Some-clause-taken
returns-in-Some-clause-taken c = adds_window _ _ _ _ _ (MatchOption-at_some _ _ _ c.in-Some.is c.in_ok-proof.ensures) c.in_ok-push.ensures.items

pub returns-clause-taken : goal.returns-clause-taken
returns-clause-taken c =
    let item = c.in-Some-last_mut.ensures.item in
    let size : length c.args.proofs.now.items ≡ (vec_len c.args.proofs.now - 1) + 1 = omega (arith, item.3.0, c.args.proofs.now.ok.0) in
    adds_found _ _ _ _ _ _ _ size item.1 (MatchOption-at_some _ _ _ c.in-Some-2.is c.in_ok-found.ensures.line)
    (let e : Entry = seen c.in-Some-last_mut.proof.now in ap (λ (ms : List Match). record e { matches = ms }) c.in_ok-push-2.ensures.items)
