use Rattle.std.proofs.Common.{◌≡◌, ◌+◌, ◌++◌, length, map}
use Rattle.sp_ports.specs.Taking.{Took}
use Rattle.sp_forest.specs.Numbering.{numbered_up}
use Rattle.sp_forest.proofs.putting.put_part.Given as goal

abbrev pub invariant-loop-one : goal.invariant-loop-one
invariant-loop-one g l = record {
  took : Took (g.O.Outlet.plan l.initial.outlet) (map (numbered_up l.before) l.yielded) (g.O.Outlet.state l.initial.outlet) (g.O.Outlet.state l.outlet);
  all : l.yielded ++ l.one-iterator.rest.items ≡ l.fn.found.items;
  count : l.matches ≡ l.before + length l.yielded;
  no_fault : (g.O.Outlet.state l.outlet).faults ≡ (g.O.Outlet.state l.initial.outlet).faults;
  plan : g.O.Outlet.plan l.outlet ≡ g.O.Outlet.plan l.initial.outlet;
  token : g.O.Outlet.token l.outlet ≡ g.O.Outlet.token l.initial.outlet;
}
