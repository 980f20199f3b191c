use Rattle.std.proofs.Common.{arith}
use Rattle.clap.specs.Words.{app_of}
use Rattle.sp_cli.proofs.Speeds.{options_more}
use Rattle.sp_cli.proofs.options.with_numbers.Goals as goal

pub loop-option-preserved : goal.loop-option-preserved
loop-option-preserved c =
    options_more (app_of c.args.command) (app_of c.loop-option.command) (app_of c.in_ok-command.command) c.args.options.now c.loop-option.option-index _
    (omega arith) c.in_ok-command.ensures c.loop-option.invariant
