use Rattle.std.proofs.Common.{ℕ, List, Err, ap}
use Rattle.sp_listing.specs.Limits.{listing_limit}
use Rattle.sp_load.specs.Places.{Place, place_of, text_of}
use Rattle.sp_answer.specs.Outcome.{ending}
use Rattle.sp_answer.specs.Promise.{Filed, filed}
use Rattle.sp_answer.specs.Ran.{Outside, outside}
use Rattle.sp_commands.specs.Check.{CheckOutcome, TextsOutcome}
use Rattle.sp_commands.proofs.Checking.{check_of_files}
use Rattle.sp_commands.proofs.TwoTexts.{texts_served, loads_refused}
use Rattle.sp_commands.proofs.checked.check.Goals as goal

pub returns-in-Ok : goal.returns-in-Ok
returns-in-Ok g c =
    let place : Place = place_of c.args.asked.place in
    let name : List ℕ = c.args.asked.listing.now in
    let before : Filed = filed (g.F.Files.held c.args.files.now) (g.F.Files.faults c.args.files.now) in
    let after : Filed = filed (g.F.Files.held c.load_texts.new.files) (g.F.Files.faults c.load_texts.new.files) in
    let old : Outside = outside (g.S.Source.state c.args.input.now) (g.K.Sink.state c.args.out.now) in
    let new : Outside = outside (g.S.Source.state c.check_texts.new.input) (g.K.Sink.state c.check_texts.new.out) in
    let texts = c.in-Ok.texts in
    texts_served listing_limit TextsOutcome place name (CheckOutcome place name) (check_of_files place name) before after old c.load_texts.ensures.held (text_of texts.query) texts.content.items c.in-Ok.ensures.query c.in-Ok.ensures.content
    new (ending c.check_texts.result) (c.in-Ok.ensures.no_fault (λ e. cc)) c.check_texts.ensures

pub returns-in-Err : goal.returns-in-Err
returns-in-Err g c =
    let place : Place = place_of c.args.asked.place in
    let name : List ℕ = c.args.asked.listing.now in
    let before : Filed = filed (g.F.Files.held c.args.files.now) (g.F.Files.faults c.args.files.now) in
    let after : Filed = filed (g.F.Files.held c.load_texts.new.files) (g.F.Files.faults c.load_texts.new.files) in
    let old : Outside = outside (g.S.Source.state c.args.input.now) (g.K.Sink.state c.args.out.now) in
    loads_refused listing_limit TextsOutcome place name (CheckOutcome place name) (check_of_files place name) before after old c.load_texts.ensures.held c.in-Err.refusal c.status_of_refusal.result c.status_of_refusal.ensures c.in-Err.ensures.refused
    (λ is. c.in-Err.ensures.fault (ap Err is)) (λ other. c.in-Err.ensures.no_fault (λ e. other cc))
