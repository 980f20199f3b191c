use Rattle.std.specs.Prelude.{codes}
use Rattle.clap.specs.Words.{app_of, with_rule}
use Rattle.sp_cli.specs.Options.{option, check_options}
use Rattle.sp_cli.proofs.Found.{made_as, made_free, check_free, check_from}
use Rattle.sp_cli.proofs.options.check_options.Goals as goal

pub returns : goal.returns
returns c =
    let made = made_as c.with_text.result (with_rule (app_of c.in_ok-command.command) (option (codes "list"))) check_options (check_from (app_of c.bare.result) (app_of c.in_ok-command.command) c.bare.ensures c.in_ok-command.ensures) c.with_text.ensures in
    record { options = made; simple = made_free c.with_text.result check_options check_free made }
