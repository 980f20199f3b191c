-- An outlet that keeps nothing.
use Rattle.std.specs.Prelude.{None}
use Rattle.sp_ports.specs.Taking.{OutletState}
use Rattle.sp_lists.specs.declared.unkept.Unkept.{Unkept}

-- the outlet as its callers see it: it tells no text, and has no faults
abbrev pub untold : Unkept → OutletState
untold outlet = record { held = None; taken = outlet.taken; faults = 0 }
