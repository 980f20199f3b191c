use Rattle.std.proofs.Common.{◌≡◌, take}
use Rattle.sp_ports.specs.Taking.{Took}
use Rattle.sp_split.proofs.handing.put_all.Given as goal

abbrev pub invariant-loop-found : goal.invariant-loop-found
invariant-loop-found g l = record {
  took : Took (g.O.Outlet.plan l.initial.outlet) (take l.found-index l.matches) (g.O.Outlet.state l.initial.outlet) (g.O.Outlet.state l.outlet);
  no_fault : (g.O.Outlet.state l.outlet).faults ≡ (g.O.Outlet.state l.initial.outlet).faults;
  plan : g.O.Outlet.plan l.outlet ≡ g.O.Outlet.plan l.initial.outlet;
  token : g.O.Outlet.token l.outlet ≡ g.O.Outlet.token l.initial.outlet;
}
