use Rattle.std.proofs.Common.{◌<◌, length, arith, ◌∙◌}
use Rattle.sp_split.proofs.Taken.{took_next, failed_next, short_next}
use Rattle.sp_split.proofs.handing.put_all.Goals as goal

pub returns-in_err-put-clause-failed : goal.returns-in_err-put-clause-failed
returns-in_err-put-clause-failed g c =
    let i = c.loop-found.found-index in
    let inside : i < length c.args.matches.now = omega arith in
    λ _. failed_next (g.O.Outlet.plan c.args.outlet.now) (g.O.Outlet.plan c.loop-found.outlet) c.loop-found.invariant.plan c.args.matches.now i c.found-item.result inside c.found-item.is
    (g.O.Outlet.state c.args.outlet.now) (g.O.Outlet.state c.loop-found.outlet) (g.O.Outlet.state c.put.new.self) c.loop-found.invariant.took c.in_err-put.ensures.front c.in_err-put.ensures.uncounted

pub returns-in_err-put-clause-short : goal.returns-in_err-put-clause-short
returns-in_err-put-clause-short g c =
    let i = c.loop-found.found-index in
    let inside : i < length c.args.matches.now = omega arith in
    λ _. short_next (g.O.Outlet.plan c.args.outlet.now) (g.O.Outlet.plan c.loop-found.outlet) c.loop-found.invariant.plan c.args.matches.now i c.found-item.result inside c.found-item.is
    (g.O.Outlet.state c.args.outlet.now) (g.O.Outlet.state c.loop-found.outlet) (g.O.Outlet.state c.put.new.self) c.loop-found.invariant.took c.in_err-put.ensures.front c.in_err-put.ensures.uncounted

pub loop-found-preserved : goal.loop-found-preserved
loop-found-preserved g c =
    let i = c.loop-found.found-index in
    let inside : i < length c.args.matches.now = omega arith in
    record {
      took = took_next (g.O.Outlet.plan c.args.outlet.now) (g.O.Outlet.plan c.loop-found.outlet) c.loop-found.invariant.plan c.args.matches.now i c.found-item.result inside c.found-item.is
          (g.O.Outlet.state c.args.outlet.now) (g.O.Outlet.state c.loop-found.outlet) (g.O.Outlet.state c.put.new.self) c.loop-found.invariant.took c.in_ok-put.ensures.ok;
      no_fault = c.in_ok-put.ensures.not_failed (λ no. cc) ∙ c.loop-found.invariant.no_fault;
      plan = c.put.ensures.plan ∙ c.loop-found.invariant.plan;
      token = c.put.ensures.token ∙ c.loop-found.invariant.token;
    }
