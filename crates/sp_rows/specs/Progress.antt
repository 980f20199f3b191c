-- What is kept between rows, and what a row is answered with.
use Rattle.std.specs.Prelude.{◌≡◌, ℕ, Bool, List, take, Option, Some, None, Result, Ok, Err}
use Rattle.std.specs.Option.{option_map}
use Rattle.std.specs.Arc.{arc_value}
use Rattle.sp_plan.specs.declared.event.Event.{Event}
use Rattle.sp_plan.specs.declared.plan.Plan.{Plan}
use Rattle.sp_rows.specs.declared.fault.RowFault.{RowFault}
use Rattle.sp_rows.specs.declared.fault.RowKind.TheVariants.{NoHeader}
use Rattle.sp_rows.specs.declared.fault.RowError.{RowError}
use Rattle.sp_rows.specs.declared.fault.RowError.TheVariants.{Fault, Memory}
use Rattle.sp_rows.specs.declared.progress.Progress.{Progress}
use Rattle.sp_rows.specs.declared.rows.Rows.{Rows}
use Rattle.sp_rows.specs.Rows.{RowsRead, RowResult, nothing, event, refused}

-- how far reading has come, with these places of the columns
abbrev pub reading : Option (List ℕ) → Progress → RowsRead
reading places progress = record { places = places; read = progress.read; last = progress.clock.last; texts = progress.texts }

-- the plan of the rows
abbrev pub plan_of : Rows → Plan
plan_of rows = arc_value rows.plan

-- whether times may go back
abbrev pub is_loose : Rows → Bool
is_loose rows = rows.progress.clock.loose

-- how far reading has come
abbrev pub read_of : Rows → RowsRead
read_of rows = reading (option_map (λ places. places.items) rows.places) rows.progress

-- how many texts had a number before the last row that gave an event
abbrev pub known_before : Rows → ℕ
known_before rows = rows.progress.known

-- the same with the texts below this number alone
abbrev pub with_texts_below : ℕ → RowsRead → RowsRead
with_texts_below number read = record read { texts = take number read.texts }

-- an error tells the fault that a row has, or want of memory
abbrev pub ErrorIs : RowResult → RowError → Type 0
ErrorIs given (Fault found) = given ≡ refused found
ErrorIs given Memory = Unit {0}

-- a row gives this event, or nothing, and this is the reading after it
abbrev pub Gave : RowResult → RowsRead → Option Event → Type 0
Gave given after None = given ≡ nothing after
Gave given after (Some e) = given ≡ event e after

-- the answer to a row is what the row gives, and the reading after it is the one that it gives; after an error the reading is the one before
abbrev pub Answers : RowResult → RowsRead → RowsRead → Result (Option Event) RowError → Type 0
Answers given before after (Ok None) = given ≡ nothing after
Answers given before after (Ok (Some e)) = given ≡ event e after
Answers given before after (Err error) = ErrorIs given error × (after ≡ before)

-- the answer to a row whose event, if it gives one, was put into this place
abbrev pub given_as : Result (Unit {0}) RowError → Option Event → Result (Option Event) RowError
given_as (Ok done) given = Ok given
given_as (Err error) given = Err error

-- the fault of input without a header
abbrev pub no_header : RowFault
no_header = record { kind = NoHeader; row = 0; column = 0 }
