-- The limits of a command's numbers.
use Rattle.std.specs.Prelude.{◌≡◌, ◌≤◌, ◌≤ℤ◌, pos, ℕ, ℤ, List, [], ◌∷◌, Some}
use Rattle.clap.specs.Walk.{Text}
use Rattle.sp_base.specs.Limits.{event_limit}
use Rattle.sp_cli.specs.Numbers.{NumberOption, live_number, speed_numbers, slack_number, trees_number}
use Rattle.sp_cli.specs.Commands.{Command, run, plain, trace, drill, check, graph, Speed, numbers_of, command_of}

abbrev pub IsBetween : ℕ → ℕ → ℕ → Type 0
IsBetween least greatest n = (least ≤ n) × (n ≤ greatest)

-- it is between the least and the greatest that its option may say
abbrev pub IsNumberOf : NumberOption → ℕ → Type 0
IsNumberOf one n = IsBetween one.least one.greatest n

-- each of the numbers is, of the option at its place
abbrev pub AreNumbersOf : List NumberOption → List ℕ → Type 0
AreNumbersOf [] [] = Unit {0}
AreNumbersOf (one ∷ others) (n ∷ numbers) = IsNumberOf one n × AreNumbersOf others numbers
AreNumbersOf _ _ = ⊥

abbrev pub IsSpeedWithin : Speed → Type 0
IsSpeedWithin speed = AreNumbersOf speed_numbers (numbers_of speed)

-- the slack is between the least and the greatest that its option may say
abbrev pub IsSlackWithin : ℤ → Type 0
IsSlackWithin slack = (pos slack_number.least ≤ℤ slack) × (slack ≤ℤ pos slack_number.greatest)

-- each number of the command is within its limits
abbrev pub IsWithin : Command → Type 0
IsWithin (run query speed slack late trees proof) = IsSpeedWithin speed × IsSlackWithin slack × IsNumberOf trees_number trees
IsWithin (plain query slack late) = IsSlackWithin slack
IsWithin (trace query schedule live) = IsNumberOf live_number live
IsWithin (drill events seed speed) = IsBetween 1 event_limit events × IsBetween 0 4294967295 seed × IsSpeedWithin speed
IsWithin (check query list) = Unit {0}
IsWithin (graph query second returns speed) = IsSpeedWithin speed

-- What words say is within the limits.
abbrev pub NumbersAreWithin : Type 0
NumbersAreWithin = (words : List Text) (command : Command) → command_of words ≡ Some command → IsWithin command
