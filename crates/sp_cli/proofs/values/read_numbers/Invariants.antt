use Rattle.std.proofs.Common.{◌≡◌, Some, map, take}
use Rattle.clap.specs.Words.{first_of}
use Rattle.sp_cli.specs.Numbers.{numbers_said}
use Rattle.sp_cli.specs.Commands.{number_seen, rows_in}
use Rattle.sp_cli.proofs.values.read_numbers.Given as goal

abbrev pub invariant-loop-i : goal.invariant-loop-i
invariant-loop-i l = numbers_said (λ name. first_of name (rows_in l.matches)) (map number_seen (take l.i l.options)) ≡ Some (take l.i l.numbers)
