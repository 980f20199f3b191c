use Rattle.clap.specs.Words.{app_of}
use Rattle.sp_cli.specs.Options.{with_speed, graph_options}
use Rattle.sp_cli.proofs.Found.{made_as, made_free, graph_free, graph_from}
use Rattle.sp_cli.proofs.options.graph_options.Goals as goal

pub returns : goal.returns
returns c =
    let made = made_as c.with_speed.result (with_speed (app_of c.in_ok-command-3.command)) graph_options (graph_from (app_of c.bare.result) (app_of c.in_ok-command.command) (app_of c.in_ok-command-2.command) (app_of c.in_ok-command-3.command) c.bare.ensures c.in_ok-command.ensures c.in_ok-command-2.ensures c.in_ok-command-3.ensures) c.with_speed.ensures in
    record { options = made; simple = made_free c.with_speed.result graph_options graph_free made }
