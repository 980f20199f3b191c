use Rattle.clap.specs.Words.{app_of}
use Rattle.sp_cli.specs.Options.{with_lateness, plain_options}
use Rattle.sp_cli.proofs.Found.{made_as, made_free, plain_free, plain_from}
use Rattle.sp_cli.proofs.options.plain_options.Goals as goal

pub returns : goal.returns
returns c =
    let made = made_as c.with_lateness.result (with_lateness (app_of c.in_ok-with_query.field-0)) plain_options (plain_from (app_of c.bare.result) (app_of c.in_ok-with_query.field-0) c.bare.ensures c.in_ok-with_query.ensures) c.with_lateness.ensures in
    record { options = made; simple = made_free c.with_lateness.result plain_options plain_free made }
