use Rattle.std.proofs.Common.{◌∙◌}
use Rattle.std.proofs.lemmas.Result.{IfOk-weaker}
use Rattle.sp_chance.specs.Shares.{share_of}
use Rattle.sp_pick.specs.Picking.{IsPicked}
use Rattle.sp_splitter.specs.Keeping.{AreApart, AreReady}
use Rattle.sp_splitter.specs.Lending.{ArePicked}
use Rattle.sp_splitter.proofs.Places.{picked_apart, picked_here, picked_ready, ready_live}
use Rattle.sp_splitter.proofs.lending.picked.Goals as goal

pub pick-requires : goal.pick-requires
pick-requires c =
    ready_live c.args.core.now c.tree.result.now c.deref.result.now c.tree.ensures (c.deref.ensures.value ∙ c.in_ok-ready.ensures)

pub returns-clause-picked : goal.returns-clause-picked
returns-clause-picked c =
    let shares = share_of c.args.chances.now in
    IfOk-weaker c.pick.result (λ ids. IsPicked shares c.tree.result.now.entries c.deref.result.now c.saturating_sub-places.result ids.items)
    (λ ids. ArePicked shares c.args.instances c.args.core.now ids.items)
    (λ ids picked. picked_here shares c.args.instances c.args.core.now c.tree.result.now c.deref.result.now c.saturating_sub-places.result c.in_ok-count_out.field-0 ids.items
    c.tree.ensures (c.deref.ensures.value ∙ c.in_ok-ready.ensures) c.saturating_sub-places.ensures c.in_ok-count_out.ensures picked) c.pick.ensures.picked

pub returns-clause-ready : goal.returns-clause-ready
returns-clause-ready c =
    let shares = share_of c.args.chances.now in
    IfOk-weaker c.pick.result (λ ids. ArePicked shares c.args.instances c.args.core.now ids.items) (λ ids. AreReady c.args.core.now ids.items)
    (λ ids picked. picked_ready shares c.args.instances c.args.core.now ids.items picked) (returns-clause-picked c)

pub returns-clause-apart : goal.returns-clause-apart
returns-clause-apart c =
    let shares = share_of c.args.chances.now in
    IfOk-weaker c.pick.result (λ ids. ArePicked shares c.args.instances c.args.core.now ids.items) (λ ids. AreApart ids.items)
    (λ ids picked. picked_apart shares c.args.instances c.args.core.now ids.items picked) (returns-clause-picked c)
