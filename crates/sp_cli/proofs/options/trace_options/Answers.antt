use Rattle.std.specs.Prelude.{codes}
use Rattle.clap.specs.Words.{app_of, with_rule}
use Rattle.sp_cli.specs.Options.{option, trace_options}
use Rattle.sp_cli.proofs.Found.{made_as, made_free, trace_free, trace_from}
use Rattle.sp_cli.proofs.options.trace_options.Goals as goal

pub returns : goal.returns
returns c =
    let made = made_as c.with_text-2.result (with_rule (app_of c.in_ok-command-2.command) (option (codes "live"))) trace_options (trace_from (app_of c.bare.result) (app_of c.in_ok-command.command) (app_of c.in_ok-command-2.command) c.bare.ensures c.in_ok-command.ensures c.in_ok-command-2.ensures) c.with_text-2.ensures in
    record { options = made; simple = made_free c.with_text-2.result trace_options trace_free made }
