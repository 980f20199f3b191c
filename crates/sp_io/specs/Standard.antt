-- Sources and sinks over the standard streams: they tell no bytes.
use Rattle.std.specs.Prelude.{◌≡◌, Bool, true, None}
use Rattle.sp_io.specs.declared.standard.StdSource.{StdSource}
use Rattle.sp_io.specs.declared.standard.StdSink.{StdSink}
use Rattle.sp_io.specs.Outside.{SourceState, SinkState, IsUsedUp}

-- the source as its callers see it
abbrev pub source_state : StdSource → SourceState
source_state s = record { left = None; faults = s.failed; ended = s.ended }

pub used_up : (s : StdSource) → (source_state s).ended ≡ true → IsUsedUp (source_state s).left
used_up s is = tt

-- the sink as its callers see it
abbrev pub sink_state : StdSink → SinkState
sink_state s = record { held = None; faults = s.failed }

-- whether it is standard error
abbrev pub is_error : StdSink → Bool
is_error s = s.error
