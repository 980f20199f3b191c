-- A sink that keeps nothing.
use Rattle.std.specs.Prelude.{None}
use Rattle.sp_io.specs.declared.discard.Discard.{Discard}
use Rattle.sp_io.specs.Outside.{SinkState}

-- the sink as its callers see it: it tells nothing, and has no faults
abbrev pub sink_state : Discard → SinkState
sink_state _ = record { held = None; faults = 0 }
