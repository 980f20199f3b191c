use Rattle.std.proofs.Common.{map}
use Rattle.sp_load.specs.Places.{text_of}
use Rattle.sp_listing.specs.Listing.{seen}
use Rattle.sp_answer.specs.Outcome.{ending}
use Rattle.sp_answer.specs.Ran.{Outside, outside}
use Rattle.sp_answer.proofs.Answering.{ran_weaker}
use Rattle.sp_commands.specs.Check.{IsPlanCheck, TextsOutcome, checks}
use Rattle.sp_commands.specs.Texts.{by_run}
use Rattle.sp_commands.proofs.checked.check_texts.Goals as goal

pub returns-in-Ok : goal.returns-in-Ok
returns-in-Ok g c =
    let text = text_of c.args.texts.query in
    let content = c.args.texts.content.items in
    let claim = c.in-Ok.claim in
    let entries = map seen claim.entries.items in
    let old : Outside = outside (g.S.Source.state c.args.input.now) (g.K.Sink.state c.args.out.now) in
    let new : Outside = outside (g.S.Source.state c.check_claim.new.input) (g.K.Sink.state c.check_claim.new.out) in
    by_run (ran_weaker (IsPlanCheck claim.plan entries) (TextsOutcome text content) old new (ending c.check_claim.result)
    (λ b e o is. checks claim.plan entries o c.in-Ok.ensures.plan c.in-Ok.ensures.listing is) c.check_claim.ensures)
