-- Words are one command at most.
use Rattle.std.proofs.Common.{◌≡◌, ℕ, List, Some, sym, ◌∙◌}
use Rattle.sp_cli.specs.Commands.{Command}
use Rattle.sp_commands.specs.Commands.{IsCommand}

pub one_command : (words : List (List ℕ)) (c d : Command) → IsCommand words c → IsCommand words d → c ≡ d
one_command words c d first second = let both : Some c ≡ Some d = sym first ∙ second in cc both
