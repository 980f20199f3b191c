use Rattle.std.proofs.Common.{◌≡◌, map, take, ◌∙◌, ap, subst}
use Rattle.std.proofs.lemmas.Result.{IfOk-weaker}
use Rattle.sp_plan.specs.declared.plan.Plan.{Plan}
use Rattle.sp_plan.specs.Windows.{closed}
use Rattle.sp_plan.specs.WindowNumbers.{Good}
use Rattle.sp_listing.specs.Listing.{seen}
use Rattle.sp_cert.specs.Checking.{FollowTo}
use Rattle.sp_cert.specs.Proofs.{proofs}
use Rattle.sp_cert.specs.Verdicts.{AgreeTo}
use Rattle.sp_cert.proofs.Judging.{all_lie, judged, stops_by}
use Rattle.sp_cert.proofs.checking.right.Goals as goal

pub following-requires-clause-lie : goal.following-requires-clause-lie
following-requires-clause-lie g c =
    let q = c.args.plan.now in
    let events = c.args.events.now in
    let good : Good q events = subst (λ (p : Plan). Good p events) c.requires.plan_is c.requires.stands.good in
    all_lie q c.requires.compiled.windowed events good c.args.windows.now.ended (take c.in_ok-alone.alone (take c.in_row.result c.args.listing.now)) c.in_ok-alone.ensures.all

pub returns : goal.returns
returns g c =
    let q = c.args.plan.now in
    let events = c.args.events.now in
    let w = c.args.windows.now in
    let listing = c.args.listing.now in
    let row = c.in_row.result in
    let alone = c.in_ok-alone.alone in
    let good : Good q events = subst (λ (p : Plan). Good p events) c.requires.plan_is c.requires.stands.good in
    let closed_is : c.closed.result ≡ closed q events w.ended = c.closed.ensures events w.ended c.requires.stands ∙ ap (λ (p : Plan). closed p events w.ended) c.requires.plan_is in
    let stops = stops_by c.closed.result (closed q events w.ended) listing row closed_is c.in_row.ensures.stops in
    IfOk-weaker c.following.result (FollowTo (map seen (take alone (take row listing)))) (AgreeTo (map seen listing) (proofs q events w.ended))
    (λ n follow. judged q c.requires.compiled.windowed events good w.ended listing row alone n c.in_row.ensures.within stops c.in_ok-alone.ensures follow) c.following.ensures
