-- What a call comes to: a status, the line that is told of it, and a text.
use Rattle.std.specs.Prelude.{ℕ, List, [], ◌++◌, codes}
use Rattle.std.specs.Fmt.{decimal}
use Rattle.sp_answer.specs.declared.status.Status.{Status}
use Rattle.sp_answer.specs.declared.status.Status.TheVariants.{Done, DoneLate, Memory, Usage, Query, Second, Returns, Input, Read, Write, Limited, Schedule, ListingLine, ListingWindow}

pub record Outcome : Type 0 where
  pub status : Status
  pub line : List ℕ
  pub text : List ℕ

-- how a call ends: its status, and the line that is told of it
pub record Ending : Type 0 where
  pub status : Status
  pub line : List ℕ

abbrev pub ending_of : Outcome → Ending
ending_of o = record { status = o.status; line = o.line }

-- the number that the program ends with
abbrev pub number_of : Status → ℕ
number_of Done = 0
number_of (DoneLate rows) = 0
number_of Memory = 1
number_of Usage = 2
number_of (Query code place) = 3
number_of (Second code place) = 3
number_of (Returns code place) = 3
number_of (Input code row column) = 4
number_of Read = 5
number_of Write = 6
number_of (Limited limit) = 7
number_of (Schedule line) = 8
number_of (ListingLine line) = 9
number_of (ListingWindow window) = 9

-- the line of a status
abbrev pub line_of : Status → List ℕ
line_of Done = []
line_of (DoneLate rows) = codes "late " ++ (decimal rows ++ codes "\n")
line_of Memory = codes "memory\n"
line_of Usage = codes "usage\n"
line_of (Query code place) = codes "query code " ++ (decimal code ++ (codes " at " ++ (decimal place ++ codes "\n")))
line_of (Second code place) = codes "second code " ++ (decimal code ++ (codes " at " ++ (decimal place ++ codes "\n")))
line_of (Returns code place) = codes "return code " ++ (decimal code ++ (codes " at " ++ (decimal place ++ codes "\n")))
line_of (Input code row column) =
    codes "input code " ++ (decimal code ++ (codes " row " ++ (decimal row ++ (codes " column " ++ (decimal column ++ codes "\n")))))
line_of Read = codes "read fault\n"
line_of Write = codes "write fault\n"
line_of (Limited limit) = codes "limit " ++ (decimal limit ++ codes "\n")
line_of (Schedule line) = codes "schedule line " ++ (decimal line ++ codes "\n")
line_of (ListingLine line) = codes "listing line " ++ (decimal line ++ codes "\n")
line_of (ListingWindow window) = codes "listing window " ++ (decimal window ++ codes "\n")

-- a status that is told by its own line
abbrev pub ending : Status → Ending
ending status = record { status = status; line = line_of status }

-- this status with its line, and this text
abbrev pub outcome : Status → List ℕ → Outcome
outcome status text = record { status = status; line = line_of status; text = text }

-- nothing is written, for this reason
abbrev pub nothing_for : Status → Outcome
nothing_for status = outcome status []
