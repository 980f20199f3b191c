use Rattle.std.proofs.Common.{arith}
use Rattle.sp_listing.specs.Listing.{seen}
use Rattle.sp_cert.specs.Checking.{StandsAlone}
use Rattle.sp_cert.proofs.Leads.{lead_more, lead_all}
use Rattle.sp_cert.proofs.local.alone.Goals as goal

pub loop-place-preserved : goal.loop-place-preserved
loop-place-preserved c =
    lead_more (λ proof. StandsAlone c.args.plan.now c.args.events.now c.args.windows.now.ended (seen proof)) c.args.proofs.now c.loop-place.place c.index-proofs-place.result (omega arith) c.index-proofs-place.is
    c.loop-place.invariant (c.in_ok-stands_alone.ensures.0 c.if-not-branch.false)

pub returns : goal.returns
returns c = lead_all (λ proof. StandsAlone c.args.plan.now c.args.events.now c.args.windows.now.ended (seen proof)) c.args.proofs.now c.loop-place.place (omega arith) c.loop-place.invariant
