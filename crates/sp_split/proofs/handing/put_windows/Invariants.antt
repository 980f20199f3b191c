use Rattle.std.proofs.Common.{◌≡◌, take}
use Rattle.sp_ports.specs.Taking.{Took}
use Rattle.sp_splitter.specs.Stages.{matches_of}
use Rattle.sp_split.proofs.handing.put_windows.Given as goal

abbrev pub invariant-loop-window : goal.invariant-loop-window
invariant-loop-window g l = record {
  took : Took (g.O.Outlet.plan l.initial.outlet) (matches_of (take l.window-index l.finished)) (g.O.Outlet.state l.initial.outlet) (g.O.Outlet.state l.outlet);
  no_fault : (g.O.Outlet.state l.outlet).faults ≡ (g.O.Outlet.state l.initial.outlet).faults;
  plan : g.O.Outlet.plan l.outlet ≡ g.O.Outlet.plan l.initial.outlet;
  token : g.O.Outlet.token l.outlet ≡ g.O.Outlet.token l.initial.outlet;
}
