-- Parts as they are kept.
use Rattle.sp_parts.specs.declared.part.Part as kept
use Rattle.sp_parts.specs.Parts.{Part}

-- the part that is kept so
abbrev pub seen : kept.Part → Part
seen part = record { first = part.first; windows = part.windows; closed = part.closed; events = part.events.items }
