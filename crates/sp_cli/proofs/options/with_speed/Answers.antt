use Rattle.std.proofs.Common.{◌∙◌, ap}
use Rattle.std.specs.Prelude.{codes, fold, List}
use Rattle.clap.specs.Words.{App, app_of, with_rule}
use Rattle.sp_cli.specs.Numbers.{NumberOption}
use Rattle.sp_cli.specs.Options.{option, with_number, with_speed}
use Rattle.sp_cli.proofs.Found.{made_as}
use Rattle.sp_cli.proofs.options.with_speed.Goals as goal

pub returns : goal.returns
returns c =
    let numbers = c.in_ok-command.ensures ∙ ap (λ (ones : List NumberOption). fold with_number (app_of c.args.command) ones) c.speed_numbers.ensures in
    made_as c.with_text.result (with_rule (app_of c.in_ok-command.command) (option (codes "predictor"))) (with_speed (app_of c.args.command))
    (ap (λ (x : App). with_rule x (option (codes "predictor"))) numbers) c.with_text.ensures
