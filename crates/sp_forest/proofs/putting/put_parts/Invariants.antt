use Rattle.std.proofs.Common.{◌≡◌, map}
use Rattle.sp_forest.specs.Numbering.{numbered_from}
use Rattle.sp_forest.proofs.PutOn.{PutSoFar}
use Rattle.sp_forest.proofs.putting.put_parts.Given as goal

abbrev pub invariant-loop-own : goal.invariant-loop-own
invariant-loop-own g l = record {
  put : PutSoFar (g.O.Outlet.plan l.initial.outlet) (numbered_from l.initial.matches (map (λ own. own.items) l.fn.found.items)) l.initial.matches l.matches (map (λ own. own.items) l.own-iterator.rest.items)
      (g.O.Outlet.state l.initial.outlet) (g.O.Outlet.state l.outlet);
  no_fault : (g.O.Outlet.state l.outlet).faults ≡ (g.O.Outlet.state l.initial.outlet).faults;
  plan : g.O.Outlet.plan l.outlet ≡ g.O.Outlet.plan l.initial.outlet;
  token : g.O.Outlet.token l.outlet ≡ g.O.Outlet.token l.initial.outlet;
}
