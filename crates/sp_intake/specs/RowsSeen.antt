-- How a reader of rows stands, and what holds its events back.
use Rattle.std.specs.Prelude.{◌≡◌, ◌-◌}
use Rattle.sp_base.specs.Limits.{event_limit}
use Rattle.sp_io.specs.Outside.{SourceState}
use Rattle.sp_rows.specs.Progress.{read_of}
use Rattle.sp_slack.specs.Standing.{kept_of}
use Rattle.sp_intake.specs.declared.held.Held as declared
use Rattle.sp_intake.specs.declared.reader.RowReader.{RowReader}
use Rattle.sp_intake.specs.declared.reader.State.TheVariants.{Going}
use Rattle.sp_intake.specs.Latest.{latest_of}
use Rattle.sp_intake.specs.Loose.{Lateness}
use Rattle.sp_intake.specs.Reader.{Reader}
use Rattle.sp_intake.specs.Standing.{RowsAt, Held, IsHungry}

-- when an event of the rows is late
abbrev pub lateness_of : RowReader → Lateness
lateness_of rows = record { slack = rows.slack; rule = rows.rule }

-- where it stands
abbrev pub reader_of : RowReader → Reader
reader_of rows = record {
  cutter = rows.cutter;
  rows = rows.rows;
  count = (read_of rows.rows).read;
  given = rows.given;
  late = event_limit - rows.most;
  greatest = latest_of rows.latest.time;
  lateness = lateness_of rows;
}

-- how rows stand whose source is in this state
abbrev pub rows_at : SourceState → RowReader → RowsAt
rows_at source rows = record { source = source; state = rows.state; reader = reader_of rows }

-- what holds events back
abbrev pub held_of : declared.Held → Held
held_of held = record { kept = kept_of held.slack; drained = held.drained }

-- it goes on, and asks for bytes
pub record IsAsking (rows : RowReader) : Type 0 where
  pub going : rows.state ≡ Going
  pub hungry : IsHungry (reader_of rows)
