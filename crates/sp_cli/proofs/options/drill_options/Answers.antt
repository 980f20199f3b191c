use Rattle.clap.specs.Words.{app_of}
use Rattle.sp_cli.specs.Options.{with_speed, drill_options}
use Rattle.sp_cli.proofs.Found.{made_as, made_free, drill_free, drill_from}
use Rattle.sp_cli.proofs.options.drill_options.Goals as goal

pub returns : goal.returns
returns c =
    let made = made_as c.with_speed.result (with_speed (app_of c.bare.result)) drill_options (drill_from (app_of c.bare.result) c.bare.ensures) c.with_speed.ensures in
    record { options = made; simple = made_free c.with_speed.result drill_options drill_free made }
