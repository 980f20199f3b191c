-- A sink in memory.
use Rattle.std.specs.Prelude.{ℕ, ◌+◌, ◌-◌, ◌^◌, List, length, take, min, Some}
use Rattle.sp_io.specs.declared.memory_sink.MemSink.{MemSink}
use Rattle.sp_io.specs.Outside.{SinkState}
use Rattle.sp_io.specs.ToldFaults.{kept_at, wanted_of}

-- the sink as its callers see it
abbrev pub sink_state : MemSink → SinkState
sink_state m = record { held = Some m.bytes.items; faults = m.failed }

-- how many bytes it has room for yet
abbrev pub free_room : MemSink → ℕ
free_room m = m.room

-- the calls that are to fail, each with how many bytes of its piece it keeps
abbrev pub told_faults : MemSink → List (ℕ × ℕ)
told_faults m = m.fails.items

-- the number of the next call, from 1
abbrev pub next_call : MemSink → ℕ
next_call m = min (m.calls + 1) (2 ^ 64 - 1)

-- what the next call appends of its piece
abbrev pub kept_front : MemSink → List ℕ → List ℕ
kept_front m piece = take (min (wanted_of (kept_at (told_faults m) (next_call m)) (length piece)) (free_room m)) piece
