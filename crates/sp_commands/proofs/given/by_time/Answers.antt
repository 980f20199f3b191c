use Rattle.std.proofs.Common.{◌≡◌, ℤ, [], Ok, Err, sym, ◌∙◌, subst, arith, to_z, of_z, w64}
use Rattle.std.proofs.lemmas.Int.{ints, to_z-of_z}
use Rattle.std.specs.Arc.{arc_value}
use Rattle.sp_slack.specs.HeldBack.{slacked, AreTimely}
use Rattle.sp_ports.specs.Stopping.{is_end}
use Rattle.sp_intake.specs.Intake.{ReadsLoose}
use Rattle.sp_intake.specs.Loose.{Lateness, loose}
use Rattle.sp_intake.specs.Reading.{stop_of}
use Rattle.sp_intake.proofs.LooseGood.{kept_timely, slacked_good}
use Rattle.sp_ports.specs.Giving.{AreGood}
use Rattle.sp_commands.specs.Commands.{lateness}
use Rattle.sp_commands.specs.Ends.{came_within, late_status}
use Rattle.sp_commands.proofs.Bringing.{lost, within_in_time, all_timed}
use Rattle.sp_commands.proofs.given.by_time.Goals as goal

pub sorted-requires-clause-timed : goal.sorted-requires-clause-timed
sorted-requires-clause-timed g c = all_timed (arc_value c.args.plan.now) c.in_ok-read.read.events.items c.in_ok-read.ensures.fit

pub sorted-requires-clause-timely : goal.sorted-requires-clause-timely
sorted-requires-clause-timely g c =
    let q = arc_value c.args.plan.now in
    let l : Lateness = lateness c.args.late.slack c.args.late.rule in
    let itself : to_z w64 (of_z w64 c.args.late.slack) ≡ c.args.late.slack = to_z-of_z w64 c.args.late.slack (omega (arith, ints, c.requires.low, c.requires.high)) in
    let reads : ReadsLoose q l (g.S.Source.state c.args.input.now) (g.S.Source.state c.read_loose.new.input) (Ok c.in_ok-read.read) =
    subst (λ (s : ℤ). ReadsLoose q (record { slack = s; rule = c.args.late.rule }) (g.S.Source.state c.args.input.now) (g.S.Source.state c.read_loose.new.input) (Ok c.in_ok-read.read)) itself c.in_ok-read.ensures in
    let timely = subst (AreTimely l.slack []) (sym reads.events) (kept_timely q l c.requires.compiled.time reads.taken (g.S.Source.state c.read_loose.new.input).ended) in
    subst (λ (s : ℤ). AreTimely s [] c.in_ok-read.read.events.items) (sym itself) timely

pub returns-in_err-read : goal.returns-in_err-read
returns-in_err-read g c =
    let q = arc_value c.args.plan.now in
    let l : Lateness = lateness c.args.late.slack c.args.late.rule in
    let itself : to_z w64 (of_z w64 c.args.late.slack) ≡ c.args.late.slack = to_z-of_z w64 c.args.late.slack (omega (arith, ints, c.requires.low, c.requires.high)) in
    let reads : ReadsLoose q l (g.S.Source.state c.args.input.now) (g.S.Source.state c.read_loose.new.input) (Err c.in_err-read.field-0.0) =
    subst (λ (s : ℤ). ReadsLoose q (record { slack = s; rule = c.args.late.rule }) (g.S.Source.state c.args.input.now) (g.S.Source.state c.read_loose.new.input) (Err c.in_err-read.field-0.0)) itself c.in_err-read.ensures in
    lost q (came_within q l) (g.S.Source.state c.args.input.now) (g.S.Source.state c.read_loose.new.input) c.from_residual.result c.from_residual.ensures.0 reads.taken reads.gave (within_in_time q l reads.taken reads.no_further)

pub returns-in_err-events : goal.returns-in_err-events
returns-in_err-events g c =
    let q = arc_value c.args.plan.now in
    let l : Lateness = lateness c.args.late.slack c.args.late.rule in
    let itself : to_z w64 (of_z w64 c.args.late.slack) ≡ c.args.late.slack = to_z-of_z w64 c.args.late.slack (omega (arith, ints, c.requires.low, c.requires.high)) in
    let reads : ReadsLoose q l (g.S.Source.state c.args.input.now) (g.S.Source.state c.read_loose.new.input) (Ok c.in_ok-read.read) =
    subst (λ (s : ℤ). ReadsLoose q (record { slack = s; rule = c.args.late.rule }) (g.S.Source.state c.args.input.now) (g.S.Source.state c.read_loose.new.input) (Ok c.in_ok-read.read)) itself c.in_ok-read.ensures in
    lost q (came_within q l) (g.S.Source.state c.args.input.now) (g.S.Source.state c.read_loose.new.input) c.from_residual-in_err-events.result c.from_residual-in_err-events.ensures.0 reads.taken reads.gave
    (within_in_time q l reads.taken reads.no_further)

pub returns : goal.returns
returns g c =
    let q = arc_value c.args.plan.now in
    let l : Lateness = lateness c.args.late.slack c.args.late.rule in
    let itself : to_z w64 (of_z w64 c.args.late.slack) ≡ c.args.late.slack = to_z-of_z w64 c.args.late.slack (omega (arith, ints, c.requires.low, c.requires.high)) in
    let reads : ReadsLoose q l (g.S.Source.state c.args.input.now) (g.S.Source.state c.read_loose.new.input) (Ok c.in_ok-read.read) =
    subst (λ (s : ℤ). ReadsLoose q (record { slack = s; rule = c.args.late.rule }) (g.S.Source.state c.args.input.now) (g.S.Source.state c.read_loose.new.input) (Ok c.in_ok-read.read)) itself c.in_ok-read.ensures in
    let ended = (g.S.Source.state c.read_loose.new.input).ended in
    let items = c.in_ok-events.ensures ∙ (λ i. slacked (itself i) c.in_ok-read.read.events.items (c.is_end.ensures i)) ∙ (λ i. slacked l.slack (reads.events i) (is_end (reads.stop i))) in
    let good = (slacked_good q l c.requires.compiled.time reads.taken ended (is_end (stop_of (loose q l reads.taken ended).reading ended))) in
    record {
      taken = reads.taken;
      gave = reads.gave;
      no_further = within_in_time q l reads.taken reads.no_further;
      is = λ i. record { events = items i; stop = reads.stop i; status = (c.late_status-status.ensures ∙ (λ j. late_status l.rule (reads.late j) (reads.stop j))) i };
      good = subst (AreGood q) (sym items) good;
      fault = reads.fault;
      told = reads.told;
    }
