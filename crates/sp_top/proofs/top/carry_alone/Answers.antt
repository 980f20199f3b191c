use Rattle.std.proofs.Common.{◌≡◌, ℕ, ℤ, List, [], ◌∷◌, ◌++◌, ap, subst, sym, rules, to_z, of_z, w64}
use Rattle.std.specs.Prelude.{string_bytes}
use Rattle.sp_load.specs.Places.{Place}
use Rattle.sp_answer.specs.Outcome.{ending}
use Rattle.sp_answer.specs.Promise.{Filed, filed, Served}
use Rattle.sp_answer.specs.Ran.{Outside, outside}
use Rattle.sp_cli.specs.Limits.{IsWithin}
use Rattle.sp_cli.specs.Commands.{Command, source_seen, seen}
use Rattle.sp_commands.specs.Commands.{place_of, files_at, files_of, lateness}
use Rattle.sp_commands.specs.Check.{CheckOutcome}
use Rattle.sp_commands.specs.Outcome.{CommandOutcome}
use Rattle.sp_commands.specs.Run.{RunOutcome}
use Rattle.sp_commands.specs.Trace.{TraceOutcome}
use Rattle.sp_top.proofs.Answered.{itself_within}
use Rattle.sp_top.proofs.top.carry_alone.Goals as goal

pub returns-in-Plain : goal.returns-in-Plain
returns-in-Plain g c =
    let before : Filed = filed (g.F.Files.held c.args.files.now) (g.F.Files.faults c.args.files.now) in
    let after : Filed = filed (g.F.Files.held c.plain.new.files) (g.F.Files.faults c.plain.new.files) in
    let old : Outside = outside (g.S.Source.state c.args.input.now) (g.K.Sink.state c.args.out.now) in
    let new : Outside = outside (g.S.Source.state c.plain.new.input) (g.K.Sink.state c.plain.new.out) in
    let query = source_seen c.in-Plain.query in
    let slack = c.in-Plain.slack in
    let late = c.in-Plain.late in
    let itself : to_z w64 (of_z w64 slack) ≡ slack = itself_within slack (subst IsWithin (ap seen c.in-Plain.is) c.requires.within) in
    let at_place = subst (λ (p : Place). Served (files_at p) (RunOutcome p (lateness (to_z w64 (of_z w64 slack)) late)) before after old new (ending c.plain.result)) c.place_of.ensures c.plain.ensures in
    let served = subst (λ (s : ℤ). Served (files_at (place_of query)) (RunOutcome (place_of query) (lateness s late)) before after old new (ending c.plain.result)) itself at_place in
    subst (λ (command : Command). Served (files_of command) (CommandOutcome command) before after old new (ending c.plain.result)) (sym (ap seen c.in-Plain.is)) served

pub returns-in-Trace : goal.returns-in-Trace
returns-in-Trace g c =
    let before : Filed = filed (g.F.Files.held c.args.files.now) (g.F.Files.faults c.args.files.now) in
    let after : Filed = filed (g.F.Files.held c.trace.new.files) (g.F.Files.faults c.trace.new.files) in
    let old : Outside = outside (g.S.Source.state c.args.input.now) (g.K.Sink.state c.args.out.now) in
    let new : Outside = outside (g.S.Source.state c.trace.new.input) (g.K.Sink.state c.trace.new.out) in
    let query = source_seen c.in-Trace.query in
    let schedule = string_bytes c.in-Trace.schedule in
    let live = c.in-Trace.live in
    let name : c.as_str.result.now ≡ schedule = search rules in
    let at_place = subst (λ (p : Place). Served (files_at p ++ c.as_str.result.now ∷ []) (TraceOutcome p c.as_str.result.now live) before after old new (ending c.trace.result)) c.place_of-in-Trace.ensures c.trace.ensures in
    let served = subst (λ (n : List ℕ). Served (files_at (place_of query) ++ n ∷ []) (TraceOutcome (place_of query) n live) before after old new (ending c.trace.result)) name at_place in
    subst (λ (command : Command). Served (files_of command) (CommandOutcome command) before after old new (ending c.trace.result)) (sym (ap seen c.in-Trace.is)) served

pub returns-in-Check : goal.returns-in-Check
returns-in-Check g c =
    let before : Filed = filed (g.F.Files.held c.args.files.now) (g.F.Files.faults c.args.files.now) in
    let after : Filed = filed (g.F.Files.held c.check.new.files) (g.F.Files.faults c.check.new.files) in
    let old : Outside = outside (g.S.Source.state c.args.input.now) (g.K.Sink.state c.args.out.now) in
    let new : Outside = outside (g.S.Source.state c.check.new.input) (g.K.Sink.state c.check.new.out) in
    let query = source_seen c.in-Check.query in
    let list = string_bytes c.in-Check.list in
    let name : c.as_str-in-Check.result.now ≡ list = search rules in
    let at_place = subst (λ (p : Place). Served (files_at p ++ c.as_str-in-Check.result.now ∷ []) (CheckOutcome p c.as_str-in-Check.result.now) before after old new (ending c.check.result)) c.place_of-in-Check.ensures c.check.ensures in
    let served = subst (λ (n : List ℕ). Served (files_at (place_of query) ++ n ∷ []) (CheckOutcome (place_of query) n) before after old new (ending c.check.result)) name at_place in
    subst (λ (command : Command). Served (files_of command) (CommandOutcome command) before after old new (ending c.check.result)) (sym (ap seen c.in-Check.is)) served
