use Rattle.std.proofs.Common.{◌<◌, List, length, arith, ◌∙◌, subst}
use Rattle.std.proofs.lemmas.Result.{err_from_is_err_and}
use Rattle.sp_plan.specs.declared.found.Match.{Match}
use Rattle.sp_ports.specs.Taking.{Took, TookFirst}
use Rattle.sp_split.specs.Driving.{FailedWithin}
use Rattle.sp_split.proofs.Behind.{window_taken, window_failed, window_short}
use Rattle.sp_split.proofs.handing.put_windows.Goals as goal

pub returns-in_err-put_all-clause-failed : goal.returns-in_err-put_all-clause-failed
returns-in_err-put_all-clause-failed g c =
    let p = err_from_is_err_and c.from_residual.result c.from_residual.ensures.1 in
    let i = c.loop-window.window-index in
    let inside : i < length c.args.finished.now = omega arith in
    λ is. window_failed (g.O.Outlet.plan c.args.outlet.now) (g.O.Outlet.plan c.loop-window.outlet) c.loop-window.invariant.plan c.args.finished.now i c.window-item.result inside c.window-item.is
    (g.O.Outlet.state c.args.outlet.now) (g.O.Outlet.state c.loop-window.outlet) (g.O.Outlet.state c.put_all.new.outlet) c.loop-window.invariant.took
    (subst (λ (l : List Match). FailedWithin (g.O.Outlet.plan c.loop-window.outlet) l (g.O.Outlet.state c.loop-window.outlet) (g.O.Outlet.state c.put_all.new.outlet)) c.deref.ensures.value (c.in_err-put_all.ensures.failed (cc)))

pub returns-in_err-put_all-clause-short : goal.returns-in_err-put_all-clause-short
returns-in_err-put_all-clause-short g c =
    let p = err_from_is_err_and c.from_residual.result c.from_residual.ensures.1 in
    let i = c.loop-window.window-index in
    let inside : i < length c.args.finished.now = omega arith in
    λ is. window_short (g.O.Outlet.plan c.args.outlet.now) (g.O.Outlet.plan c.loop-window.outlet) c.loop-window.invariant.plan c.args.finished.now i c.window-item.result inside c.window-item.is
    (g.O.Outlet.state c.args.outlet.now) (g.O.Outlet.state c.loop-window.outlet) (g.O.Outlet.state c.put_all.new.outlet) c.loop-window.invariant.took
    (subst (λ (l : List Match). TookFirst (g.O.Outlet.plan c.loop-window.outlet) l (g.O.Outlet.state c.loop-window.outlet) (g.O.Outlet.state c.put_all.new.outlet)) c.deref.ensures.value (c.in_err-put_all.ensures.short (cc)))

pub loop-window-preserved : goal.loop-window-preserved
loop-window-preserved g c =
    let i = c.loop-window.window-index in
    let inside : i < length c.args.finished.now = omega arith in
    record {
      took = window_taken (g.O.Outlet.plan c.args.outlet.now) (g.O.Outlet.plan c.loop-window.outlet) c.loop-window.invariant.plan c.args.finished.now i c.window-item.result inside c.window-item.is
          (g.O.Outlet.state c.args.outlet.now) (g.O.Outlet.state c.loop-window.outlet) (g.O.Outlet.state c.put_all.new.outlet) c.loop-window.invariant.took
          (subst (λ (l : List Match). Took (g.O.Outlet.plan c.loop-window.outlet) l (g.O.Outlet.state c.loop-window.outlet) (g.O.Outlet.state c.put_all.new.outlet)) c.deref.ensures.value c.in_ok-put_all.ensures.took);
      no_fault = c.in_ok-put_all.ensures.no_fault (λ no. cc) ∙ c.loop-window.invariant.no_fault;
      plan = c.put_all.ensures.same.0 ∙ c.loop-window.invariant.plan;
      token = c.put_all.ensures.same.1 ∙ c.loop-window.invariant.token;
    }
