-- The limits of the program, and the two numbers that its predictors count by.
use Rattle.std.specs.Prelude.{ℕ, ◌+◌}

-- the most events of an input, of a machine and of a drill
abbrev pub event_limit : ℕ
event_limit = 1048576

-- the greatest number that a query may write or an event hold, and the last time
abbrev pub number_limit : ℕ
number_limit = 1000000000000000

-- the first number past it, at which a reader of digits stops counting
abbrev pub past_number_limit : ℕ
past_number_limit = number_limit + 1

-- the most bytes of a row, without what ends it
abbrev pub row_limit : ℕ
row_limit = 65536

-- the most bytes that a source is asked for at a time
abbrev pub piece_limit : ℕ
piece_limit = 4096

-- the most bytes of a query's text or file
abbrev pub query_limit : ℕ
query_limit = 16384

-- the most bytes of a schedule's file
abbrev pub schedule_limit : ℕ
schedule_limit = 1048576

-- the most events of a window that is measured by them
abbrev pub length_limit : ℕ
length_limit = 65536

-- the greatest step between windows, in events
abbrev pub step_limit : ℕ
step_limit = 1048576

-- the greatest bound of live versions
abbrev pub live_limit : ℕ
live_limit = 4096

-- the most events that are fed or lent at a time
abbrev pub batch_limit : ℕ
batch_limit = 1024

-- the most windows that are finished before the next predictor takes its place
abbrev pub rotate_limit : ℕ
rotate_limit = 65536

-- the whole of a share, in parts
abbrev pub whole_share : ℕ
whole_share = 65536

-- how many pairs a predictor learns before it builds its matrices anew
abbrev pub renewal : ℕ
renewal = 1024
