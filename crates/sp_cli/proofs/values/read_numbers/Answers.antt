use Rattle.std.proofs.Common.{rules, ◌≡◌, ℕ, List, Option, None, arith, map}
use Rattle.clap.specs.Words.{first_of}
use Rattle.sp_cli.specs.Numbers.{numbers_said}
use Rattle.sp_cli.specs.Commands.{number_seen, rows_in}
use Rattle.sp_cli.proofs.Speeds.{said_more, said_none}
use Rattle.sp_cli.proofs.values.read_numbers.Goals as goal

pub loop-i-preserved : goal.loop-i-preserved
loop-i-preserved c =
    said_more (λ name. first_of name (rows_in c.args.matches.now)) c.args.options.now c.loop-i.numbers c.loop-i.i c.in_ok-numbers.field-0 _
    (omega arith) (omega arith) c.loop-i.invariant c.in_ok-numbers.ensures.ok

pub returns-in_err-numbers-clause-usage : goal.returns-in_err-numbers-clause-usage
returns-in_err-numbers-clause-usage c =
    let text_of : List ℕ → Option (List ℕ) = λ name. first_of name (rows_in c.args.matches.now) in
    let none : numbers_said text_of (map number_seen c.args.options.now) ≡ None =
    said_none text_of c.args.options.now c.loop-i.i _ (omega arith) c.in_err-numbers.ensures.usage in
    search rules
