-- Why a run is over.
use Rattle.std.specs.Prelude.{Bool, Option, Some, None, Ok, Err, if◌then◌else◌}
use Rattle.std.specs.declared.result.Result.{Result}
use Rattle.sp_ports.specs.declared.outlet.OutFault.{OutFault}
use Rattle.sp_ports.specs.declared.outlet.OutFault.TheVariants as o
use Rattle.sp_split.specs.declared.ended.Why.{Why}
use Rattle.sp_split.specs.declared.ended.Why.TheVariants as why
use Rattle.sp_split.specs.declared.feeding.Fed.{Fed}
use Rattle.sp_split.specs.declared.feeding.Fed.TheVariants as f

-- why a run is over where every closed window is finished: by how feeding ended, and for the very reason of a stop
abbrev pub why_fed : Fed → Option Why
why_fed f.More = None
why_fed f.Dry = None
why_fed f.End = Some why.Whole
why_fed (f.Stop stop) = Some (why.Stopped stop)

-- a run goes on behind a turn, or came to its end or to a stop: it is over neither for a match that was refused nor for want of memory
abbrev pub IsThrough : Option Why → Type 0
IsThrough None = Unit {0}
IsThrough (Some why.Whole) = Unit {0}
IsThrough (Some (why.Stopped cause)) = Unit {0}
IsThrough (Some why.Refused) = ⊥
IsThrough (Some why.Memory) = ⊥

-- why a run is over behind a turn: the outlet failed, or memory ran out, or every closed window is finished and no event will come
abbrev pub why_over : {T : Type 0} → Fed → Result T OutFault → Bool → Option Why
why_over fed (Err o.Failed) all = Some why.Refused
why_over fed (Err o.Memory) all = Some why.Memory
why_over fed (Ok x) all = if all then why_fed fed else None
