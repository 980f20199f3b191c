use Rattle.clap.specs.Words.{app_of}
use Rattle.sp_cli.specs.Options.{with_proof, run_options}
use Rattle.sp_cli.proofs.Found.{made_as, made_free, run_free, run_from}
use Rattle.sp_cli.proofs.options.run_options.Goals as goal

pub returns : goal.returns
returns c =
    let made = made_as c.with_flag.result (with_proof (app_of c.in_ok-command-3.command)) run_options
    (run_from (app_of c.bare.result) (app_of c.in_ok-command.command) (app_of c.in_ok-with_speed.field-0) (app_of c.in_ok-command-2.command)
    (app_of c.in_ok-command-3.command) c.bare.ensures c.in_ok-command.ensures c.in_ok-with_speed.ensures c.in_ok-command-2.ensures
    c.in_ok-command-3.ensures) c.with_flag.ensures in
    record { options = made; simple = made_free c.with_flag.result run_options run_free made }
