use Rattle.std.proofs.Common.{◌≡◌, map, take}
use Rattle.std.specs.Prelude.{fold}
use Rattle.clap.specs.Words.{app_of}
use Rattle.sp_cli.specs.Options.{with_number}
use Rattle.sp_cli.specs.Commands.{number_seen}
use Rattle.sp_cli.proofs.options.with_numbers.Given as goal

abbrev pub invariant-loop-option : goal.invariant-loop-option
invariant-loop-option l = app_of l.command ≡ fold with_number (app_of l.initial.command) (map number_seen (take l.option-index l.options))
